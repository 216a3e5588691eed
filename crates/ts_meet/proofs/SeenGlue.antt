-- What is seen of a glued span, and of a finish span, depends on what is seen of the registers.
use Rattle.std.proofs.Common.{◌≡◌, ◌⊎◌, inl, inr, ℕ, zero, suc, ℤ, pos, Bool, true, false, cond, ◌&&◌, ◌||◌, refl, sym, ap, subst, ◌∙◌, rules}
use Rattle.std.specs.Prelude.{IsTrue}
use Rattle.std.specs.List.{list_all}
use Rattle.std.proofs.lemmas.Bool.{and_parts}
use Rattle.ts_base.specs.declared.op.Op.{Op}
use Rattle.ts_base.specs.declared.op.Op.TheVariants.{Add, Max, Min}
use Rattle.ts_base.specs.declared.span.Span.{Span}
use Rattle.ts_base.specs.Spans.{has_some, none_span}
use Rattle.ts_automaton.specs.declared.expr.Atom.TheVariants.{C, E, D, F, R, This, Next, Zero, Unit as UnitAtom, NegInf as LowAtom, PosInf as HighAtom}
use Rattle.ts_automaton.specs.declared.expr.Operator.TheVariants.{Fold, Sub}
use Rattle.ts_automaton.specs.AutomatonRun.{Standing}
use Rattle.ts_automaton.specs.Body.{Body, node_at}
use Rattle.ts_automaton.specs.Formula.{Formula, Leaf, Join, is_narrow, is_of}
use Rattle.ts_automaton.specs.Registers.{EachOf, each, ext_op, spans, value_in}
use Rattle.ts_automaton.specs.SpanRun.{finished_span, has_registers, marked_span}
use Rattle.ts_automaton.specs.Typing.{has_expressions, has_expressions_in, is_automaton, is_expression, is_formed, is_short, is_typed, has_few_states, has_names, has_constants, has_targets}
use Rattle.ts_automaton.proofs.KindLaws.{op_mono}
use Rattle.ts_glue.specs.declared.operand.Part.TheVariants.{Whole}
use Rattle.ts_glue.specs.Glue.{Glue, Left, Right, Number, With, apart, fold_of, fold_op, glue_in, glue_of, is_join, is_wide, join_of, part_of, result_op, worth}
use Rattle.ts_glue.specs.Glued.{glue_span_at}
use Rattle.ts_glue.specs.Pairs.{Pair}
use Rattle.ts_glue.specs.Rules.{keeps_rules}
use Rattle.ts_glue.proofs.Facts.{facts_of}
use Rattle.ts_hull.specs.Sealed.{sealed_spans}
use Rattle.ts_sweep.specs.declared.packed.Ends.{Ends}
use Rattle.ts_sweep.specs.FrontLaws.{never_added}
use Rattle.ts_sweep.specs.Fronts.{IsFor}
use Rattle.ts_sweep.specs.MoveLaws.{both_for}
use Rattle.ts_sweep.specs.Packed.{IsPackOf}
use Rattle.ts_sweep.specs.Sides.{Sides, BothEnds, UpperEnds, LowerEnds, seen}
use Rattle.ts_sweep.proofs.SeenLaws.{seen_op, seen_twice, some_seen}
use Rattle.ts_meet.specs.declared.gluing.Gluing.{Gluing}
use Rattle.ts_meet.specs.declared.joints.Joints.{Joints}
use Rattle.ts_meet.specs.Joints.{AreJoints, expression, part_by}
use Rattle.ts_meet.specs.Meets.{finish_seen, glued_seen}
use Rattle.ts_meet.specs.Sides.{pointed_spans, shown_ends}
use Rattle.ts_meet.proofs.Gluings.{folded}
use Rattle.ts_meet.proofs.Meeting.{finish_sealed, value_sealed}
use Rattle.ts_meet.proofs.Pointed.{seen_pointed, shown_pack}

-- registers of which the same is seen

abbrev SameSeen : Sides → EachOf Span → EachOf Span → Type 0
SameSeen s a b = (seen s a.c ≡ seen s b.c) × (seen s a.d ≡ seen s b.d) × (seen s a.r ≡ seen s b.r)

value_same : (s : Sides) (f : Formula) (a b : EachOf Span) → is_narrow f ≡ true → SameSeen s a b →
    seen s (value_in sealed_spans a (pos 0) (pos 0) f) ≡ seen s (value_in sealed_spans b (pos 0) (pos 0) f)
value_same s (Leaf C) a b n same = same.0
value_same s (Leaf E) a b n same = cc
value_same s (Leaf D) a b n same = same.1
value_same s (Leaf F) a b n same = cc
value_same s (Leaf R) a b n same = same.2
value_same s (Leaf This) a b n same = refl
value_same s (Leaf Next) a b n same = refl
value_same s (Leaf Zero) a b n same = refl
value_same s (Leaf UnitAtom) a b n same = refl
value_same s (Leaf LowAtom) a b n same = refl
value_same s (Leaf HighAtom) a b n same = refl
value_same s (Join (Fold o) f g) a b n same =
    let p = and_parts (is_narrow f) (is_narrow g) n in
    seen_op s (ext_op o) (op_mono o) _ _ _ _ (value_same s f a b p.0 same) (value_same s g a b p.1 same)
value_same s (Join Sub f g) a b n same = cc

-- neither E nor F nor a difference stands in a glue expression
abbrev AreNarrow : Glue → Type 0
AreNarrow (Left f) = is_narrow f ≡ true
AreNarrow (Right f) = is_narrow f ≡ true
AreNarrow (Number x) = Unit {0}
AreNarrow (With (Fold o) u v) = AreNarrow u × AreNarrow v
AreNarrow (With Sub u v) = ⊥

glue_same : (s : Sides) (u : Glue) (a b c d : EachOf Span) → AreNarrow u → SameSeen s a c → SameSeen s b d →
    seen s (glue_in sealed_spans a b u) ≡ seen s (glue_in sealed_spans c d u)
glue_same s (Left f) a b c d n p q = value_same s f a c n p
glue_same s (Right f) a b c d n p q = value_same s f b d n q
glue_same s (Number x) a b c d n p q = refl
glue_same s (With (Fold o) u v) a b c d n p q =
    seen_op s (ext_op o) (op_mono o) _ _ _ _ (glue_same s u a b c d n.0 p q) (glue_same s v a b c d n.1 p q)
glue_same s (With Sub u v) a b c d n p q = absurd n

-- expressions of narrow pairs are narrow

folded_narrow : (o : Op) (d : ℤ) (trims l r : Bool) → AreNarrow (folded o Whole d trims l r)
folded_narrow o d true true true = search rules
folded_narrow o d true true false = search rules
folded_narrow o d true false true = search rules
folded_narrow o d true false false = search rules
folded_narrow Add d false l r = search rules
folded_narrow Max d false l r = search rules
folded_narrow Min d false l r = search rules

gluing_narrow : (g : Gluing) (wide joins : Bool) → wide ≡ false →
    AreNarrow (cond joins (join_of g.result (fold_of wide g.fold (part_by g))) (apart wide g.result))
gluing_narrow g false true e = ((refl, refl), folded_narrow g.fold g.worth g.trims g.held_left g.held_right)
gluing_narrow g false false e = (refl, refl)
gluing_narrow g true joins e = never_added e

part_narrow : (a : ℕ) (l r : Bool) (d : ℤ) (o : Op) → AreNarrow (part_of a l r d o Whole)
part_narrow zero l r d o = folded_narrow o d false l r
part_narrow (suc a) l r d o = folded_narrow o d true l r

pair_narrow : (p : Pair) (q r : ℕ) (x : ℤ) → is_wide p ≡ false → AreNarrow (glue_of p q r x)
pair_narrow p q r x narrow = by_width (is_wide p) (is_join p.table q r) narrow
  where
    left : Bool
    left = (node_at p.forward.states q).held

    right : Bool
    right = (node_at p.reverse.states r).held

    by_width : (wide joins : Bool) → wide ≡ false →
        AreNarrow (cond joins
        (join_of (result_op p) (fold_of wide (fold_op p.table.op) (part_of p.table.a left right (worth p.table.unit x))))
        (apart wide (result_op p)))
    by_width false true e = ((refl, refl), part_narrow p.table.a left right (worth p.table.unit x) (fold_op p.table.op))
    by_width false false e = (refl, refl)
    by_width true joins e = never_added e

-- ends that are read as single numbers

all_pointed : (s : Sides) (a : EachOf Span) → s ≡ BothEnds → pointed_spans s a ≡ a
all_pointed BothEnds a e = refl
all_pointed UpperEnds a e = cc
all_pointed LowerEnds a e = cc

pointed_same : (s : Sides) (a : EachOf Span) → SameSeen s (pointed_spans s a) a
pointed_same s a = (seen_pointed s a.c, seen_pointed s a.d, seen_pointed s a.r)

glue_pointed : (s : Sides) (g : Gluing) (a b : EachOf Span) → (s ≡ BothEnds) ⊎ (g.wide ≡ false) →
    seen s (glue_in sealed_spans (pointed_spans s a) (pointed_spans s b) (expression g)) ≡ seen s (glue_in sealed_spans a b (expression g))
glue_pointed s g a b (inl both) =
    ap (λ z. seen s (glue_in sealed_spans z (pointed_spans s b) (expression g))) (all_pointed s a both)
    ∙ ap (λ z. seen s (glue_in sealed_spans a z (expression g))) (all_pointed s b both)
glue_pointed s g a b (inr narrow) =
    glue_same s (expression g) _ _ a b (gluing_narrow g g.wide g.joins narrow) (pointed_same s a) (pointed_same s b)

-- what is made of ends that are read as single numbers stands for what is seen of the glued span
pub shown_glued : (s : Sides) (g : Gluing) (a b : EachOf Span) (e : Ends) → (s ≡ BothEnds) ⊎ (g.wide ≡ false) →
    IsPackOf e (glue_in sealed_spans (pointed_spans s a) (pointed_spans s b) (expression g)) →
    IsPackOf (shown_ends s e) (seen s (glue_in sealed_spans a b (expression g)))
shown_glued s g a b e alone p = subst (IsPackOf (shown_ends s e)) (glue_pointed s g a b alone) (shown_pack s e _ p)

-- what is seen of registers: E and F of narrow hulls are 0
abbrev pub seen_regs : Sides → EachOf Span → EachOf Span
seen_regs s a = each (seen s a.c) a.e (seen s a.d) a.f (seen s a.r)

abbrev pub seen_standing : Sides → Standing Span → Standing Span
seen_standing s st = record { state = st.state; regs = seen_regs s st.regs }

all_regs : (s : Sides) (a : EachOf Span) → s ≡ BothEnds → seen_regs s a ≡ a
all_regs BothEnds a e = refl
all_regs UpperEnds a e = cc
all_regs LowerEnds a e = cc

regs_same : (s : Sides) (a : EachOf Span) → SameSeen s (seen_regs s a) a
regs_same s a = (seen_twice s a.c, seen_twice s a.d, seen_twice s a.r)

registers_seen : (s : Sides) (a : EachOf Span) → has_registers (seen_regs s a) ≡ has_registers a
unfolding has_registers
registers_seen s a =
    ap (λ b. b && has_some a.e && has_some (seen s a.d) && has_some a.f && has_some (seen s a.r)) (some_seen s a.c)
    ∙ ap (λ b. has_some a.c && has_some a.e && b && has_some a.f && has_some (seen s a.r)) (some_seen s a.d)
    ∙ ap (λ b. has_some a.c && has_some a.e && has_some a.d && has_some a.f && b) (some_seen s a.r)

-- none stays none
some_same : (s : Sides) (b : Bool) (t u : Span) → seen s t ≡ seen s u → seen s (cond b t none_span) ≡ seen s (cond b u none_span)
some_same s true t u e = e
some_same s false t u e = refl

-- what is seen of a glued span
pub glue_span_seen : (s : Sides) (p : Pair) (left right : Standing Span) (x : ℤ) → (s ≡ BothEnds) ⊎ (is_wide p ≡ false) →
    seen s (glue_span_at p (seen_standing s left) (seen_standing s right) x) ≡ seen s (glue_span_at p left right x)
glue_span_seen s p left right x alone =
    let u = glue_of p left.state right.state x in
    let a = seen_regs s left.regs in let b = seen_regs s right.regs in
    let glued = glue_in spans a b u in
    ap (λ z. seen s (cond (z && has_registers b) glued none_span)) (registers_seen s left.regs)
    ∙ ap (λ z. seen s (cond (has_registers left.regs && z) glued none_span)) (registers_seen s right.regs)
    ∙ some_same s (has_registers left.regs && has_registers right.regs) glued (glue_in spans left.regs right.regs u)
    (ap (seen s) (sym (value_sealed u a b)) ∙ go alone ∙ ap (seen s) (value_sealed u left.regs right.regs))
  where
    go : (s ≡ BothEnds) ⊎ (is_wide p ≡ false) →
        seen s (glue_in sealed_spans (seen_regs s left.regs) (seen_regs s right.regs) (glue_of p left.state right.state x))
        ≡ seen s (glue_in sealed_spans left.regs right.regs (glue_of p left.state right.state x))
    go (inl both) =
        ap (λ z. seen s (glue_in sealed_spans z (seen_regs s right.regs) (glue_of p left.state right.state x))) (all_regs s left.regs both)
        ∙ ap (λ z. seen s (glue_in sealed_spans left.regs z (glue_of p left.state right.state x))) (all_regs s right.regs both)
    go (inr narrow) =
        glue_same s (glue_of p left.state right.state x) _ _ left.regs right.regs (pair_narrow p left.state right.state x narrow)
        (regs_same s left.regs) (regs_same s right.regs)

pub glued_again : (s : Sides) (p : Pair) (left right : Standing Span) (x : ℤ) (cells : ℕ) → (s ≡ BothEnds) ⊎ (is_wide p ≡ false) →
    glued_seen s p (seen_standing s left) (seen_standing s right) x cells ≡ glued_seen s p left right x cells
glued_again s p left right x cells alone = ap (marked_span p.forward.mark cells) (glue_span_seen s p left right x alone)

-- pairs whose rules hold are as wide as their forward automaton, and joints as their pair
pub pair_alone : (s : Sides) (p : Pair) → IsTrue (keeps_rules p) → (s ≡ BothEnds) ⊎ (p.forward.wide ≡ false) → (s ≡ BothEnds) ⊎ (is_wide p ≡ false)
pair_alone s p rules alone = subst (λ w. (s ≡ BothEnds) ⊎ (w ≡ false)) (facts_of p rules).forward_width alone

pub joints_alone : (s : Sides) (p : Pair) (j : Joints) → AreJoints p j → (s ≡ BothEnds) ⊎ (is_wide p ≡ false) → (s ≡ BothEnds) ⊎ (j.wide ≡ false)
joints_alone s p j are alone = subst (λ w. (s ≡ BothEnds) ⊎ (w ≡ false)) (sym are.wide) alone

-- the finish expression of a narrow automaton is narrow

finish_formed : (b : Body) → IsTrue (is_automaton b) → is_expression b.wide b.finish ≡ true
finish_formed b rules =
    let p = and_parts (is_formed b) (is_typed b) rules in
    let q = and_parts (has_few_states b && has_names b && has_constants b && has_targets b) (has_expressions b) p.0 in
    (and_parts (list_all (has_expressions_in b.wide) b.states) (is_expression b.wide b.finish) q.1).1

pub finish_narrow : (b : Body) → IsTrue (is_automaton b) → b.wide ≡ false → is_narrow b.finish ≡ true
finish_narrow b rules narrow =
    ap (λ w. w || is_narrow b.finish) (sym narrow) ∙ (and_parts (is_short b.finish) (is_of b.wide b.finish) (finish_formed b rules)).1

narrow_for : (s : Sides) (f : Formula) → is_narrow f ≡ true → IsFor s f
narrow_for BothEnds f e = tt
narrow_for UpperEnds f e = e
narrow_for LowerEnds f e = e

pub finish_for : (s : Sides) (b : Body) → IsTrue (is_automaton b) → (s ≡ BothEnds) ⊎ (b.wide ≡ false) → IsFor s b.finish
finish_for s b rules (inl both) = both_for s b.finish both
finish_for s b rules (inr narrow) = narrow_for s b.finish (finish_narrow b rules narrow)

-- the same is seen of a finish span by ends that are read as single numbers
pub finish_pointed : (s : Sides) (b : Body) (a : EachOf Span) → IsTrue (is_automaton b) → (s ≡ BothEnds) ⊎ (b.wide ≡ false) →
    seen s (value_in sealed_spans (pointed_spans s a) (pos 0) (pos 0) b.finish) ≡ seen s (value_in sealed_spans a (pos 0) (pos 0) b.finish)
finish_pointed s b a rules (inl both) = ap (λ z. seen s (value_in sealed_spans z (pos 0) (pos 0) b.finish)) (all_pointed s a both)
finish_pointed s b a rules (inr narrow) = value_same s b.finish _ a (finish_narrow b rules narrow) (pointed_same s a)

-- ends that stand for an answer stand for what is seen of the finish span, where the answer is the finish expression
pub answer_shown : (s : Sides) (b : Body) (a : EachOf Span) (f : Formula) (e shown : Ends) → IsTrue (is_automaton b) →
    (s ≡ BothEnds) ⊎ (b.wide ≡ false) → b.finish ≡ f → shown ≡ shown_ends s e →
    IsPackOf e (value_in sealed_spans (pointed_spans s a) (pos 0) (pos 0) f) → IsPackOf shown (seen s (value_in sealed_spans a (pos 0) (pos 0) b.finish))
answer_shown s b a f e shown rules alone is outer p =
    let q = subst (λ z. IsPackOf e (value_in sealed_spans (pointed_spans s a) (pos 0) (pos 0) z)) (sym is) p in
    subst (λ z. IsPackOf z (seen s (value_in sealed_spans a (pos 0) (pos 0) b.finish))) (sym outer)
    (subst (IsPackOf (shown_ends s e)) (finish_pointed s b a rules alone) (shown_pack s e _ q))

-- what is seen of a finish span before the mark
pub finished_span_seen : (s : Sides) (b : Body) (regs : EachOf Span) → IsTrue (is_automaton b) → (s ≡ BothEnds) ⊎ (b.wide ≡ false) →
    seen s (finished_span b (seen_regs s regs)) ≡ seen s (finished_span b regs)
finished_span_seen s b regs rules alone =
    let a = seen_regs s regs in
    let value = value_in spans a (pos 0) (pos 0) b.finish in
    ap (λ z. seen s (cond z value none_span)) (registers_seen s regs)
    ∙ some_same s (has_registers regs) value (value_in spans regs (pos 0) (pos 0) b.finish)
    (ap (seen s) (finish_sealed b.finish a (pos 0) (pos 0)) ∙ go alone ∙ ap (seen s) (sym (finish_sealed b.finish regs (pos 0) (pos 0))))
  where
    go : (s ≡ BothEnds) ⊎ (b.wide ≡ false) →
        seen s (value_in sealed_spans (seen_regs s regs) (pos 0) (pos 0) b.finish) ≡ seen s (value_in sealed_spans regs (pos 0) (pos 0) b.finish)
    go (inl both) = ap (λ z. seen s (value_in sealed_spans z (pos 0) (pos 0) b.finish)) (all_regs s regs both)
    go (inr narrow) = value_same s b.finish _ regs (finish_narrow b rules narrow) (regs_same s regs)

pub finish_again : (s : Sides) (b : Body) (st : Standing Span) (cells : ℕ) → IsTrue (is_automaton b) → (s ≡ BothEnds) ⊎ (b.wide ≡ false) →
    finish_seen s b (seen_standing s st) cells ≡ finish_seen s b st cells
finish_again s b st cells rules alone = ap (marked_span b.mark cells) (finished_span_seen s b st.regs rules alone)
