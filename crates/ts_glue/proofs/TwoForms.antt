-- Where the reverse run stands at its start, the glued form is the finish form, of values and of spans.
use Rattle.std.proofs.Common.{◌≡◌, ℕ, Bool, true, false, cond, ◌&&◌, ℤ, pos, ◌+ℤ◌, refl, sym, ◌∙◌, ap, arith}
use Rattle.std.proofs.lemmas.Int.{ints}
use Rattle.ts_base.specs.declared.ext.Ext.{Ext}
use Rattle.ts_base.specs.declared.ext.Ext.TheVariants.{NegInf, Int, PosInf}
use Rattle.ts_base.specs.declared.span.Span.{Span}
use Rattle.ts_base.specs.Numbers.{clamp, ext_plus, ext_max, ext_min}
use Rattle.ts_base.specs.Spans.{none_span, one_span, has_some, end_by_end}
use Rattle.ts_base.proofs.Order.{le_refl}
use Rattle.ts_base.proofs.SpanLaws.{holds_some, one_some, lifted_ends}
use Rattle.ts_base.specs.declared.op.Op.{Op}
use Rattle.ts_base.specs.declared.op.Op.TheVariants.{Add, Max, Min}
use Rattle.ts_automaton.specs.Differences.{difference}
use Rattle.ts_automaton.specs.Formula.{Formula}
use Rattle.ts_automaton.specs.Registers.{EachOf, each, Values, numbers, spans, ext_op, value_in}
use Rattle.ts_automaton.specs.Body.{node_at}
use Rattle.ts_automaton.specs.AutomatonRun.{under_mark}
use Rattle.ts_automaton.specs.SpanRun.{has_registers, one_hull, marked_span}
use Rattle.ts_automaton.proofs.Five.{registers_parts}
use Rattle.ts_automaton.proofs.OperatorLaws.{op_mono}
use Rattle.ts_automaton.proofs.RunLaws.{one_registers, value_holds, value_single}
use Rattle.ts_glue.specs.Pairs.{Pair}
use Rattle.ts_glue.specs.Glue.{glue_in, glue_of, apart, held_of, is_wide, join_of, fold_of, fold_op, part_of, result_of, worth, result_op}
use Rattle.ts_glue.specs.Laws.{StartGluesToFinish, TwoFormsAgree}
use Rattle.ts_glue.proofs.Facts.{Facts, facts_of, neutral_of, start_is_apart}

clamped_again : (z : ℤ) → clamp (clamp z +ℤ pos 0) ≡ clamp z
clamped_again z = grind (arith, ints)

plus_zero : (a b : Ext) → ext_plus (ext_plus a b) (Int (pos 0)) ≡ ext_plus a b
plus_zero NegInf b = refl
plus_zero (Int x) NegInf = refl
plus_zero (Int x) (Int y) = ap Int (clamped_again (x +ℤ y))
plus_zero (Int x) PosInf = refl
plus_zero PosInf NegInf = refl
plus_zero PosInf (Int y) = refl
plus_zero PosInf PosInf = refl

max_low : (a : Ext) → ext_max a NegInf ≡ a
max_low NegInf = refl
max_low (Int x) = refl
max_low PosInf = refl

min_high : (a : Ext) → ext_min a PosInf ≡ a
min_high NegInf = refl
min_high (Int x) = refl
min_high PosInf = refl

-- the neutral value changes no value that the operator makes
neutral_changes_none : (o : Op) (a b : Ext) → ext_op o (ext_op o a b) (neutral_of o) ≡ ext_op o a b
neutral_changes_none Add a b = plus_zero a b
neutral_changes_none Max a b = max_low (ext_max a b)
neutral_changes_none Min a b = min_high (ext_min a b)

neutral_twice : (o : Op) → ext_op o (neutral_of o) (neutral_of o) ≡ neutral_of o
neutral_twice Add = refl
neutral_twice Max = refl
neutral_twice Min = refl

-- the finish expression of a run that stands at such constants is neutral too
less_zero : (o : Op) → difference (neutral_of o) (Int (pos 0)) ≡ neutral_of o
less_zero Add = refl
less_zero Max = refl
less_zero Min = refl

held_at_start : (wide : Bool) (o : Op) (s : EachOf Ext) → s.c ≡ neutral_of o → (wide ≡ true → s.e ≡ Int (pos 0)) →
    value_in numbers s (pos 0) (pos 0) (held_of wide) ≡ neutral_of o
held_at_start false o s c e = c
held_at_start true o s c e = ap (λ z. difference z s.e) c ∙ ap (difference (neutral_of o)) (e refl) ∙ less_zero o

result_at_start : (wide : Bool) (o : Op) (s : EachOf Ext) → s.c ≡ neutral_of o → s.r ≡ neutral_of o → (wide ≡ true → s.e ≡ Int (pos 0)) →
    value_in numbers s (pos 0) (pos 0) (result_of wide o) ≡ neutral_of o
result_at_start wide o s c r e =
    ap (λ z. ext_op o z (value_in numbers s (pos 0) (pos 0) (held_of wide))) r
    ∙ ap (ext_op o (neutral_of o)) (held_at_start wide o s c e)
    ∙ neutral_twice o

span_neutral : (o : Op) (s t : Span) → has_some s ≡ true → has_some t ≡ true →
    end_by_end (ext_op o) (end_by_end (ext_op o) s t) (one_span (neutral_of o)) ≡ end_by_end (ext_op o) s t
span_neutral o s t h k =
    let n = neutral_of o in
    let u : Span = record { lo = ext_op o s.lo t.lo; hi = ext_op o s.hi t.hi } in
    let i = lifted_ends (ext_op o) s t h k in
    ap (λ z. end_by_end (ext_op o) z (one_span n)) i
    ∙ lifted_ends (ext_op o) u (one_span n) (op_mono o s.lo s.hi t.lo t.hi h k) (one_some n)
    ∙ ap (λ z. record { lo = z; hi = ext_op o (ext_op o s.hi t.hi) n }) (neutral_changes_none o s.lo t.lo)
    ∙ ap (λ z. record { lo = ext_op o s.lo t.lo; hi = z }) (neutral_changes_none o s.hi t.hi)
    ∙ sym i

-- the span of an expression over a hull that isn't none isn't none
value_some : (f : Formula) (h : EachOf Span) → has_registers h ≡ true → has_some (value_in spans h (pos 0) (pos 0) f) ≡ true
value_some f h e =
    let a = registers_parts h e in
    let s : EachOf Ext = each h.c.lo h.e.lo h.d.lo h.f.lo h.r.lo in
    holds_some (value_in spans h (pos 0) (pos 0) f) (value_in numbers s (pos 0) (pos 0) f)
    (value_holds f s h (pos 0) (pos 0)
    ((le_refl h.c.lo, a.0), (le_refl h.e.lo, a.1), (le_refl h.d.lo, a.2), (le_refl h.f.lo, a.3), (le_refl h.r.lo, a.4)))

-- at the reverse start state nothing is joined
apart_at_start : {A : Type 0} (m : Values A) (p : Pair) → Facts p → (q : ℕ) (s t : EachOf A) (x : ℤ) →
    glue_in m s t (glue_of p q 0 x) ≡ glue_in m s t (apart (is_wide p) (result_op p))
apart_at_start m p f q s t x =
    let g = result_op p in
    let through =
    join_of g
    (fold_of (is_wide p) (fold_op p.table.op)
    (part_of p.table.a (node_at p.forward.states q).held (node_at p.reverse.states 0).held (worth p.table.unit x))) in
    ap (λ v. glue_in m s t (cond v through (apart (is_wide p) g))) (start_is_apart p f q)

start_neutral : (p : Pair) → Facts p → value_in numbers p.reverse.start (pos 0) (pos 0) (result_of (is_wide p) (result_op p)) ≡ neutral_of (result_op p)
start_neutral p f = result_at_start (is_wide p) (result_op p) p.reverse.start f.start_c f.start_r f.start_e

pub start_glues_to_finish : StartGluesToFinish
start_glues_to_finish p k q s x n =
    let f = facts_of p k in
    let g = result_op p in
    let finish = value_in numbers s (pos 0) (pos 0) (result_of (is_wide p) g) in
    ap (under_mark p.forward.mark n)
    (apart_at_start numbers p f q s p.reverse.start x
    ∙ ap (ext_op g finish) (start_neutral p f)
    ∙ neutral_changes_none g s.r (value_in numbers s (pos 0) (pos 0) (held_of (is_wide p)))
    ∙ sym (ap (value_in numbers s (pos 0) (pos 0)) f.forward_finish))

pub two_forms_agree : TwoFormsAgree
two_forms_agree p k q h x n = ap (marked_span p.forward.mark n) (go (has_registers h) refl)
  where
    f : Facts p
    f = facts_of p k

    start : EachOf Span
    start = one_hull p.reverse.start

    finish : Formula
    finish = result_of (is_wide p) (result_op p)

    go : (v : Bool) → has_registers h ≡ v →
        cond (v && has_registers start) (glue_in spans h start (glue_of p q 0 x)) none_span
        ≡ cond v (value_in spans h (pos 0) (pos 0) p.forward.finish) none_span
    go false e = refl
    go true e =
        let g = result_op p in
        let a = registers_parts h e in
        ap (λ w. cond w (glue_in spans h start (glue_of p q 0 x)) none_span) (one_registers p.reverse.start)
        ∙ apart_at_start spans p f q h start x
        ∙ ap (end_by_end (ext_op g) (value_in spans h (pos 0) (pos 0) finish)) (value_single finish p.reverse.start (pos 0) (pos 0))
        ∙ ap (λ z. end_by_end (ext_op g) (value_in spans h (pos 0) (pos 0) finish) (one_span z)) (start_neutral p f)
        ∙ span_neutral g h.r (value_in spans h (pos 0) (pos 0) (held_of (is_wide p))) a.4 (value_some (held_of (is_wide p)) h e)
        ∙ sym (ap (value_in spans h (pos 0) (pos 0)) f.forward_finish)
