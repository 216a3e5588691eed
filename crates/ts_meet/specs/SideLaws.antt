-- What operators make of ends stands for what they make of spans.
-- Lemmas, no definitions: they are here since ghost members of impls cite them.
use Rattle.std.proofs.Common.{◌≡◌, ◌≤ℤ◌, inl, inr, ℤ, pos, negsuc, neg_ℤ, Bool, true, false, cond, int_le, refl, sym, ap, ◌∙◌, subst, arith}
use Rattle.std.proofs.lemmas.Int.{ints}
use Rattle.std.specs.Int.{int_max}
use Rattle.ts_base.specs.declared.ext.Ext.TheVariants.{Int}
use Rattle.ts_base.specs.declared.span.Span.{Span}
use Rattle.ts_base.specs.declared.op.Op.TheVariants.{Add, Max, Min}
use Rattle.ts_base.specs.Limits.{IsCellValue}
use Rattle.ts_base.specs.declared.op.Op.{Op}
use Rattle.ts_base.specs.Spans.{one_span}
use Rattle.ts_automaton.specs.declared.expr.Operator.{Operator}
use Rattle.ts_automaton.specs.declared.expr.Operator.TheVariants.{Fold, Sub}
use Rattle.ts_hull.specs.Sealed.{sealed_op}
use Rattle.ts_sweep.specs.declared.packed.Ends.{Ends}
use Rattle.ts_sweep.specs.FrontLaws.{number_packs}
use Rattle.ts_sweep.specs.OperatorLaws.{crossed_packs, greater_packs, less_is_sum, less_packs, lesser_packs}
use Rattle.ts_sweep.specs.OperatorLaws.{negated_span, sum_packs}
use Rattle.ts_sweep.specs.Operators.{crossed, sum_of_ends}
use Rattle.ts_sweep.specs.Packed.{ends, AreWithin, IsPackOf, IsWithin}
use Rattle.ts_sweep.specs.Sides.{BothEnds, IsEndsOf}
use Rattle.ts_sweep.specs.SidesLaws.{ends_of_pack, kept_packs}
use Rattle.ts_sweep.specs.TreeLaws.{any_packs}
use Rattle.ts_sweep.specs.Trees.{joined_by, sum_below}
use Rattle.ts_sweep.proofs.TreeSums.{above_first, above_left, below_first, below_left}
use Rattle.ts_automaton.specs.Registers.{EachOf}
use Rattle.ts_meet.specs.declared.gluing.Gluing.{Gluing}
use Rattle.ts_glue.specs.declared.operand.Part.{Part}
use Rattle.ts_glue.specs.declared.operand.Part.TheVariants.{Whole, Away}
use Rattle.ts_meet.specs.Joints.{IsFoldPlain, IsPlain, with_worth}
use Rattle.ts_meet.specs.Sides.{IsInfinity, TakesPlain, is_far, plain_by}

pub cell_within : (x : ℤ) → IsCellValue x → IsWithin 1 x
cell_within x h = let a = h.0 in let b = h.1 in (omega (arith, ints, a, b), omega (arith, ints, a, b))

pub cell_packs : (x : ℤ) → IsCellValue x → IsPackOf (ends (neg_ℤ x) x) (one_span (Int x))
cell_packs x h = number_packs x (cell_within x h)

-- where both ends are kept, ends stand for a span
to_ends : (e : Ends) (t : Span) → IsPackOf e t → IsEndsOf BothEnds e t
to_ends e t p = ends_of_pack BothEnds e t p

to_pack : (e : Ends) (t : Span) → IsEndsOf BothEnds e t → IsPackOf e t
to_pack e t p = kept_packs BothEnds e t p

pub clamped_packs : (o : Operator) (a b : Ends) (s t : Span) → IsPackOf a s → IsPackOf b t →
    IsPackOf (joined_by o a b) (sealed_op o s t)
clamped_packs (Fold o) a b s t p q = to_pack _ _ (any_packs o BothEnds a b s t (to_ends a s p) (to_ends b t q))
clamped_packs Sub a b s t p q =
    let first = to_ends a s p in let second = to_ends b t q in
    subst (IsPackOf (joined_by Sub a b)) (sym (less_is_sum s t first.some second.some))
    (to_pack _ _ (any_packs Add BothEnds a (crossed b) s (negated_span t) first (crossed_packs b t second)))

-- what is taken away from one infinity changes nothing, so such differences are those that are clamped

far_clash : (p : Bool) (m : ℤ) → int_le (pos 9223372036854775807) m ≡ p → m ≤ℤ pos 50000000000000000 → p ≡ false
far_clash true m e h = absurd (grind (arith, ints, e, h))
far_clash false m e h = refl

max_few : (x y : ℤ) → IsWithin 5 x → IsWithin 5 y → int_max x y ≤ℤ pos 50000000000000000
max_few x y h k = let a = h.1 in let b = k.1 in grind (arith, ints, a, b)

pub near_small : (a : Ends) → AreWithin 5 a → is_far a ≡ false
near_small a h = far_clash (is_far a) (int_max a.below a.above) refl (max_few a.below a.above h.0 h.1)

pub far_infinity : (a : Ends) → IsInfinity a → is_far a ≡ true
far_infinity a (inl e) =
    ap (λ x. int_le (pos 9223372036854775807) (int_max x a.above)) e.0
    ∙ ap (λ y. int_le (pos 9223372036854775807) (int_max (pos 9223372036854775807) y)) e.1
far_infinity a (inr e) =
    ap (λ x. int_le (pos 9223372036854775807) (int_max x a.above)) e.0
    ∙ ap (λ y. int_le (pos 9223372036854775807) (int_max (negsuc 9223372036854775806) y)) e.1

at_most_self : (x : ℤ) → x ≤ℤ x
at_most_self x = grind (arith, ints)

low_less : (b : Ends) →
    ends (pos 9223372036854775807) (negsuc 9223372036854775806)
    ≡ joined_by Sub (ends (pos 9223372036854775807) (negsuc 9223372036854775806)) b
low_less b =
    ap (λ z. ends z (negsuc 9223372036854775806)) (below_left (pos 9223372036854775807) b.above (at_most_self _))
    ∙ ap (λ z. ends (sum_below (pos 9223372036854775807) b.above) z)
    (above_left (negsuc 9223372036854775806) b.below (at_most_self _))

high_less : (b : Ends) → AreWithin 5 b →
    ends (negsuc 9223372036854775806) (pos 9223372036854775807)
    ≡ joined_by Sub (ends (negsuc 9223372036854775806) (pos 9223372036854775807)) b
high_less b h =
    let x = h.1.1 in let y = h.0.0 in
    ap (λ z. ends z (pos 9223372036854775807))
    (below_first (negsuc 9223372036854775806) b.above (at_most_self _) (omega (arith, ints, x)))
    ∙ ap (λ z. ends (sum_below (negsuc 9223372036854775806) b.above) z)
    (above_first (pos 9223372036854775807) b.below (at_most_self _) (omega (arith, ints, y)))

infinity_less : (x y : ℤ) (b : Ends) → IsInfinity (ends x y) → AreWithin 5 b → ends x y ≡ joined_by Sub (ends x y) b
infinity_less x y b (inl e) h =
    subst (λ u. ends u y ≡ joined_by Sub (ends u y) b) (sym e.0)
    (subst (λ v. ends (pos 9223372036854775807) v ≡ joined_by Sub (ends (pos 9223372036854775807) v) b) (sym e.1)
    (low_less b))
infinity_less x y b (inr e) h =
    subst (λ u. ends u y ≡ joined_by Sub (ends u y) b) (sym e.0)
    (subst (λ v. ends (negsuc 9223372036854775806) v ≡ joined_by Sub (ends (negsuc 9223372036854775806) v) b) (sym e.1)
    (high_less b h))

less_packs_by : (p : Bool) (a b : Ends) (s t : Span) → is_far a ≡ p → TakesPlain Sub a b → IsPackOf a s → IsPackOf b t →
    IsPackOf (cond p a (sum_of_ends a (crossed b))) (sealed_op Sub s t)
less_packs_by false a b s t e h p q =
    to_pack _ _ (less_packs BothEnds 5 5 a b s t refl (omega arith) (λ z. (h.0 e, h.2)) (to_ends a s p) (to_ends b t q))
less_packs_by true a b s t e h p q =
    subst (λ z. IsPackOf z (sealed_op Sub s t)) (sym (infinity_less a.below a.above b (h.1 e) h.2))
    (clamped_packs Sub a b s t p q)

pub plain_packs : (o : Operator) (a b : Ends) (s t : Span) → TakesPlain o a b → IsPackOf a s → IsPackOf b t →
    IsPackOf (plain_by o a b) (sealed_op o s t)
plain_packs (Fold Add) a b s t h p q =
    to_pack _ _ (sum_packs BothEnds 5 5 a b s t (omega arith) (λ e. h) (to_ends a s p) (to_ends b t q))
plain_packs (Fold Max) a b s t h p q = to_pack _ _ (greater_packs BothEnds a b s t (to_ends a s p) (to_ends b t q))
plain_packs (Fold Min) a b s t h p q = to_pack _ _ (lesser_packs BothEnds a b s t (to_ends a s p) (to_ends b t q))
plain_packs Sub a b s t h p q = less_packs_by (is_far a) a b s t refl h p q

-- which numbers are added doesn't depend on what the cell is worth

fold_with_worth : (p : Part) (o : Op) (g : Gluing) (d : ℤ) (a b : EachOf Ends) → IsFoldPlain p o g a b →
    IsFoldPlain p o (with_worth g d) a b
fold_with_worth p o g d a b f = record {
  left_open = f.left_open;
  right_open = f.right_open;
  left_held = f.left_held;
  right_held = f.right_held;
}

pub plain_with_worth : (g : Gluing) (d : ℤ) (a b : EachOf Ends) → IsPlain g a b → IsPlain (with_worth g d) a b
plain_with_worth g d a b p = record {
  results = p.results;
  held = p.held;
  folded = λ j w. fold_with_worth Whole g.fold g d a b (p.folded j w);
  away = λ j w. let s = p.away j w in (s.0, fold_with_worth Away Min g d a b s.1);
}
