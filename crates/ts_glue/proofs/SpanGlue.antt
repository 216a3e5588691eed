-- Glued spans hold glued values, stay single and none, and grow with their hulls.
use Rattle.std.proofs.Common.{◌≡◌, inl, inr, ℕ, Bool, true, false, cond, ◌&&◌, refl, sym, ◌∙◌, ap, subst}
use Rattle.std.proofs.lemmas.Bool.{and_parts, and_from}
use Rattle.ts_base.specs.declared.ext.Ext.{Ext}
use Rattle.ts_base.specs.declared.span.Span.{Span}
use Rattle.ts_base.specs.SpanLayer.{IsWithin}
use Rattle.ts_base.specs.Spans.{none_span, one_span, Holds, has_some, span_hull}
use Rattle.ts_base.proofs.Order.{le_refl, le_trans}
use Rattle.ts_base.proofs.SpanLaws.{holds_some, holds_one, none_empty, hull_least}
use Rattle.ts_automaton.specs.declared.state.Mark.TheVariants.{Same}
use Rattle.ts_automaton.specs.Registers.{EachOf, Each, numbers, spans}
use Rattle.ts_automaton.specs.Differences.{span_op}
use Rattle.ts_automaton.specs.SpanRun.{has_registers, one_hull, HoldsRegs, marked_span}
use Rattle.ts_automaton.specs.Laws.{standing_with}
use Rattle.ts_automaton.proofs.Five.{registers_parts, some_registers}
use Rattle.ts_automaton.proofs.OperatorLaws.{op_holds, op_one, op_within}
use Rattle.ts_automaton.proofs.RunLaws.{holds_registers, one_registers, mark_single, marks_hold}
use Rattle.ts_glue.specs.Glue.{Glue, glue_in, glue_of}
use Rattle.ts_glue.specs.Glued.{glue_at, glue_span_at}
use Rattle.ts_glue.specs.Laws.{GluedSpansHold, MarkedSpansHold, NoneGluesToNone, GluedStaysSingle, GluedSpansGrow, UnmarkedSpansGrow}
use Rattle.ts_glue.proofs.Expressions.{glue_related}

glue_holds : (u : Glue) (s t : EachOf Ext) (h i : EachOf Span) → HoldsRegs h s → HoldsRegs i t → Holds (glue_in spans h i u) (glue_in numbers s t u)
glue_holds u s t h i k l =
    glue_related numbers spans (λ e v. Holds v e) holds_one (λ o a a' v v' p q. op_holds o v v' a a' p q)
    u s t h i (k.0, k.1, k.2, k.3, k.4) (l.0, l.1, l.2, l.3, l.4)

pub glued_spans_hold : GluedSpansHold
glued_spans_hold p q r h i s t x k l =
    let u = glue_of p q r x in
    let e = glue_in numbers s t u in
    subst (λ v. Holds (cond (v && has_registers i) (glue_in spans h i u) none_span) e) (sym (holds_registers h s k))
    (subst (λ v. Holds (cond v (glue_in spans h i u) none_span) e) (sym (holds_registers i t l)) (glue_holds u s t h i k l))

pub marked_spans_hold : MarkedSpansHold
marked_spans_hold p q r h i s t x n k l =
    marks_hold p.forward.mark n (glue_span_at p (standing_with q h) (standing_with r i) x) (glue_at numbers p (standing_with q s) (standing_with r t) x)
    (glued_spans_hold p q r h i s t x k l)

none_second : (a : Bool) (s : Span) → cond (a && false) s none_span ≡ none_span
none_second true s = refl
none_second false s = refl

pub none_glues_to_none : NoneGluesToNone
none_glues_to_none p left right x n (inl e) =
    let u = glue_of p left.state right.state x in
    ap (λ v. marked_span p.forward.mark n (cond (v && has_registers right.regs) (glue_in spans left.regs right.regs u) none_span)) e
none_glues_to_none p left right x n (inr e) =
    let u = glue_of p left.state right.state x in
    ap (λ v. marked_span p.forward.mark n (cond (has_registers left.regs && v) (glue_in spans left.regs right.regs u) none_span)) e
    ∙ ap (marked_span p.forward.mark n) (none_second (has_registers left.regs) (glue_in spans left.regs right.regs u))

glue_single : (u : Glue) (s t : EachOf Ext) → glue_in spans (one_hull s) (one_hull t) u ≡ one_span (glue_in numbers s t u)
glue_single u s t =
    glue_related numbers spans (λ e v. v ≡ one_span e) (λ e. refl)
    (λ o a a' v v' p q. ap (λ z. span_op o z v') p ∙ ap (span_op o (one_span a)) q ∙ op_one o a a')
    u s t (one_hull s) (one_hull t) (refl, refl, refl, refl, refl) (refl, refl, refl, refl, refl)

pub glued_stays_single : GluedStaysSingle
glued_stays_single p q r s t x n =
    let u = glue_of p q r x in
    ap (λ v. marked_span p.forward.mark n (cond (v && has_registers (one_hull t)) (glue_in spans (one_hull s) (one_hull t) u) none_span)) (one_registers s)
    ∙ ap (λ v. marked_span p.forward.mark n (cond v (glue_in spans (one_hull s) (one_hull t) u) none_span)) (one_registers t)
    ∙ ap (marked_span p.forward.mark n) (glue_single u s t)
    ∙ mark_single p.forward.mark n (glue_in numbers s t u)

-- wider hulls

glue_grows : (u : Glue) (h i h' i' : EachOf Span) → Each IsWithin h h' → Each IsWithin i i' → IsWithin (glue_in spans h i u) (glue_in spans h' i' u)
glue_grows u h i h' i' k l =
    glue_related spans spans IsWithin (λ e f g. g) (λ o a a' v v' p q. op_within o a a' v v' p q) u h i h' i'
    (k.0, k.1, k.2, k.3, k.4) (l.0, l.1, l.2, l.3, l.4)

wider_some : (s t : Span) → IsWithin s t → has_some s ≡ true → has_some t ≡ true
wider_some s t w e = holds_some t s.lo (w s.lo (le_refl s.lo, e))

pub wider_registers : (h h' : EachOf Span) → Each IsWithin h h' → has_registers h ≡ true → has_registers h' ≡ true
wider_registers h h' w e =
    let a = registers_parts h e in
    some_registers h'
    (wider_some h.c h'.c w.0 a.0, wider_some h.e h'.e w.1 a.1, wider_some h.d h'.d w.2 a.2, wider_some h.f h'.f w.3 a.3, wider_some h.r h'.r w.4 a.4)

pub glued_spans_grow : GluedSpansGrow
glued_spans_grow p q r h i h' i' x k l e = go (has_registers h && has_registers i) refl
  where
    u : Glue
    u = glue_of p q r x

    go : (v : Bool) → (has_registers h && has_registers i) ≡ v → Holds (cond v (glue_in spans h i u) none_span) e →
        Holds (cond (has_registers h' && has_registers i') (glue_in spans h' i' u) none_span) e
    go true b g =
        let c = and_parts (has_registers h) (has_registers i) b in
        let d = and_from (has_registers h') (has_registers i') (wider_registers h h' k c.0) (wider_registers i i' l c.1) in
        subst (λ v. Holds (cond v (glue_in spans h' i' u) none_span) e) (sym d) (glue_grows u h i h' i' k l e g)
    go false b g = elim (none_empty e g) [ ]

-- under the mark that changes nothing

same_within : (n : ℕ) (s : Span) → IsWithin (marked_span Same n s) s
same_within n s e = go (has_some s) refl
  where
    go : (v : Bool) → has_some s ≡ v → Holds (cond v (span_hull (one_span s.lo) (one_span s.hi)) none_span) e → Holds s e
    go true i h =
        hull_least (one_span s.lo) (one_span s.hi) s (λ d k. (k.0, le_trans d s.lo s.hi k.1 i)) (λ d k. (le_trans s.lo s.hi d i k.0, k.1)) e h
    go false i h = elim (none_empty e h) [ ]

pub same_grows : (n : ℕ) (s t : Span) → IsWithin s t → IsWithin (marked_span Same n s) (marked_span Same n t)
same_grows n s t w e h = marks_hold Same n t e (w e (same_within n s e h)) tt

pub unmarked_spans_grow : UnmarkedSpansGrow
unmarked_spans_grow p same q r h i h' i' x n k l =
    let s = glue_span_at p (standing_with q h) (standing_with r i) x in
    let t = glue_span_at p (standing_with q h') (standing_with r i') x in
    subst (λ m. IsWithin (marked_span m n s) (marked_span m n t)) (sym same) (same_grows n s t (glued_spans_grow p q r h i h' i' x k l))
