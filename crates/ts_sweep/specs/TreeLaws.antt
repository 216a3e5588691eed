-- The laws of expressions that are known only when the program runs.
-- Lemmas, no definitions: they are here since ghost members of impls cite them.
use Rattle.std.proofs.Common.{◌≡◌, ℕ, ◌+◌, ◌≤◌, ◌<ℤ◌, ◌+ℤ◌, ℤ, pos, negsuc, neg_ℤ, List, refl, sym, ap, subst, ◌∙◌, arith}
use Rattle.std.proofs.lemmas.Int.{ints, clamps}
use Rattle.ts_base.specs.Numbers.{ext_plus, clamp}
use Rattle.ts_base.specs.declared.ext.Ext.{Ext}
use Rattle.ts_base.specs.declared.ext.Ext.TheVariants.{NegInf, Int, PosInf}
use Rattle.ts_base.specs.declared.span.Span.{Span}
use Rattle.ts_automaton.specs.declared.expr.Atom.{Atom}
use Rattle.ts_automaton.specs.declared.expr.Atom.TheVariants.{C, E, D, F, R, This, Next, Zero, Unit as UnitAtom, NegInf as LowAtom, PosInf as HighAtom}
use Rattle.ts_automaton.specs.declared.expr.Operator.{Operator}
use Rattle.ts_automaton.specs.declared.expr.Operator.TheVariants.{Fold, Sub}
use Rattle.ts_base.specs.declared.op.Op.{Op}
use Rattle.ts_base.specs.declared.op.Op.TheVariants.{Add, Max, Min}
use Rattle.ts_automaton.specs.Formula.{Formula, Leaf, Join}
use Rattle.ts_automaton.specs.Registers.{ext_op}
use Rattle.ts_automaton.specs.declared.regs.Hull.{Hull}
use Rattle.ts_automaton.proofs.KindLaws.{op_mono}
use Rattle.ts_hull.specs.Sealed.{by_ends, sealed_op, span_in}
use Rattle.ts_sweep.specs.declared.packed.Ends.{Ends}
use Rattle.ts_sweep.specs.declared.packed.Name.TheVariants.{C as NameC, E as NameE, D as NameD, F as NameF, R as NameR}
use Rattle.ts_sweep.specs.Small.{IsSmall}
use Rattle.ts_sweep.specs.Lanes.{least}
use Rattle.ts_sweep.specs.Packed.{upper, negated, IsWithin, AreWithin}
use Rattle.ts_sweep.specs.Sides.{Sides, BothEnds, UpperEnds, LowerEnds, IsEndsOf}
use Rattle.ts_sweep.specs.Operators.{crossed}
use Rattle.ts_sweep.specs.UpperLaws.{upper_mid}
use Rattle.ts_sweep.specs.OperatorLaws.{upper_within, ends_by, crossed_packs, negated_span, less_is_sum, greater_packs, greater_within, lesser_packs, lesser_within}
use Rattle.ts_sweep.specs.Fronts.{AreEndsOf, IsFor}
use Rattle.ts_sweep.specs.FrontLaws.{for_parts, number_ends_of, small_number, one_is_small, zero_is_small, low_ends, high_ends}
use Rattle.ts_sweep.specs.Trees.{lane_of, sum_above, sum_below, folded_by, joined_by, word_ends, tree_value}

-- a sum is an infinity, or a number that is no more than the clamp
upper_clamped : (x : ℤ) → upper (clamp x) ≡ Int (clamp x)
upper_clamped x = upper_mid (clamp x) (omega (arith, ints, clamps)) (omega (arith, ints, clamps))

lane_plus : (a b : Ext) → upper (lane_of (ext_plus a b)) ≡ ext_plus a b
lane_plus NegInf b = refl
lane_plus (Int x) NegInf = refl
lane_plus (Int x) (Int y) = upper_clamped (x +ℤ y)
lane_plus (Int x) PosInf = refl
lane_plus PosInf NegInf = refl
lane_plus PosInf (Int y) = refl
lane_plus PosInf PosInf = refl

neg_clamped : (x : ℤ) → negated (upper (neg_ℤ (clamp x))) ≡ Int (clamp x)
neg_clamped x =
    ap negated (upper_mid (neg_ℤ (clamp x)) (omega (arith, ints, clamps)) (omega (arith, ints, clamps)))
    ∙ ap Int (twice (clamp x))
  where
    twice : (z : ℤ) → neg_ℤ (neg_ℤ z) ≡ z
    twice z = grind (arith, ints)

lane_plus_low : (a b : Ext) → negated (upper (lane_of (negated (ext_plus a b)))) ≡ ext_plus a b
lane_plus_low NegInf b = refl
lane_plus_low (Int x) NegInf = refl
lane_plus_low (Int x) (Int y) = neg_clamped (x +ℤ y)
lane_plus_low (Int x) PosInf = refl
lane_plus_low PosInf NegInf = refl
lane_plus_low PosInf (Int y) = refl
lane_plus_low PosInf PosInf = refl

above_clamped : (x : ℤ) → least <ℤ clamp x
above_clamped x = omega (arith, ints, clamps)

above_neg : (x : ℤ) → least <ℤ neg_ℤ (clamp x)
above_neg x = omega (arith, ints, clamps)

low_above : least <ℤ negsuc 9223372036854775806
low_above = grind (arith, ints)

high_above : least <ℤ pos 9223372036854775807
high_above = grind (arith, ints)

lane_above : (a b : Ext) → least <ℤ lane_of (ext_plus a b)
lane_above NegInf b = low_above
lane_above (Int x) NegInf = low_above
lane_above (Int x) (Int y) = above_clamped (x +ℤ y)
lane_above (Int x) PosInf = high_above
lane_above PosInf NegInf = low_above
lane_above PosInf (Int y) = high_above
lane_above PosInf PosInf = high_above

lane_below : (a b : Ext) → least <ℤ lane_of (negated (ext_plus a b))
lane_below NegInf b = high_above
lane_below (Int x) NegInf = high_above
lane_below (Int x) (Int y) = above_neg (x +ℤ y)
lane_below (Int x) PosInf = low_above
lane_below PosInf NegInf = high_above
lane_below PosInf (Int y) = low_above
lane_below PosInf PosInf = low_above

-- the clamped sum of each end
clamped_packs : (s : Sides) (a b : Ends) (t u : Span) → IsEndsOf s a t → IsEndsOf s b u →
    IsEndsOf s (folded_by Add a b) (by_ends (ext_op Add) t u)
clamped_packs s a b t u p q =
    ends_by s (ext_op Add) (op_mono Add) a b (folded_by Add a b) t u p q
    (λ h k. (
      lane_below (negated (upper a.below)) (negated (upper b.below)),
      lane_plus_low (negated (upper a.below)) (negated (upper b.below))
          ∙ ap (λ e. ext_plus e (negated (upper b.below))) h.1 ∙ ap (ext_plus t.lo) k.1,
    ))
    (λ h k. (
      lane_above (upper a.above) (upper b.above),
      lane_plus (upper a.above) (upper b.above) ∙ ap (λ e. ext_plus e (upper b.above)) h.1 ∙ ap (ext_plus t.hi) k.1,
    ))

pub any_packs : (o : Op) (s : Sides) (a b : Ends) (t u : Span) → IsEndsOf s a t → IsEndsOf s b u →
    IsEndsOf s (folded_by o a b) (by_ends (ext_op o) t u)
any_packs Add s a b t u p q = clamped_packs s a b t u p q
any_packs Max s a b t u p q = greater_packs s a b t u p q
any_packs Min s a b t u p q = lesser_packs s a b t u p q

both_joined : (o : Operator) (a b : Ends) (t u : Span) → IsEndsOf BothEnds a t → IsEndsOf BothEnds b u →
    IsEndsOf BothEnds (joined_by o a b) (sealed_op o t u)
both_joined (Fold o) a b t u p q = any_packs o BothEnds a b t u p q
both_joined Sub a b t u p q =
    subst (IsEndsOf BothEnds (folded_by Add a (crossed b))) (sym (less_is_sum t u p.some q.some))
    (clamped_packs BothEnds a (crossed b) t (negated_span u) p (crossed_packs b u q))

-- the word of a register, a number or an infinity
word_packs : (w : Atom) (s : Sides) (xs : List ℤ) (h : Hull) (x y : ℤ) → AreEndsOf s xs h → IsSmall x → IsSmall y →
    IsEndsOf s (word_ends w xs x y) (span_in (Leaf w) h x y)
word_packs C s xs h x y are small next = are NameC
word_packs E s xs h x y are small next = are NameE
word_packs D s xs h x y are small next = are NameD
word_packs F s xs h x y are small next = are NameF
word_packs R s xs h x y are small next = are NameR
word_packs This s xs h x y are small next = number_ends_of s x (small_number x small)
word_packs Next s xs h x y are small next = number_ends_of s y (small_number y next)
word_packs Zero s xs h x y are small next = number_ends_of s (pos 0) zero_is_small
word_packs UnitAtom s xs h x y are small next = number_ends_of s (pos 1) one_is_small
word_packs LowAtom s xs h x y are small next = low_ends s
word_packs HighAtom s xs h x y are small next = high_ends s

pub tree_packs : (f : Formula) (s : Sides) (xs : List ℤ) (h : Hull) (x y : ℤ) → AreEndsOf s xs h → IsFor s f →
    IsSmall x →
    IsSmall y →
    IsEndsOf s (tree_value f xs x y) (span_in f h x y)
tree_packs (Leaf w) s xs h x y are suits small next = word_packs w s xs h x y are small next
tree_packs (Join (Fold o) f g) s xs h x y are suits small next =
    let parts = for_parts s o f g suits in
    any_packs o s _ _ _ _ (tree_packs f s xs h x y are parts.0 small next)
    (tree_packs g s xs h x y are parts.1 small next)
tree_packs (Join Sub f g) BothEnds xs h x y are suits small next =
    both_joined Sub _ _ _ _ (tree_packs f BothEnds xs h x y are tt small next)
    (tree_packs g BothEnds xs h x y are tt small next)
tree_packs (Join Sub f g) UpperEnds xs h x y are suits small next = cc
tree_packs (Join Sub f g) LowerEnds xs h x y are suits small next = cc

-- 0, which stands where there is no next cell, is small
pub zero_small : IsSmall (pos 0)
zero_small = (grind (arith, ints), grind (arith, ints))

-- small ends give small ones

neg_within : (i : ℕ) (x : ℤ) → IsWithin i x → IsWithin i (neg_ℤ x)
neg_within i x h = let a = h.0 in let b = h.1 in (omega (arith, ints), omega (arith, ints))

clamp_within : (i : ℕ) (x : ℤ) → IsWithin i x → IsWithin i (clamp x)
clamp_within i x h = let a = h.0 in let b = h.1 in (omega (arith, ints, clamps), omega (arith, ints, clamps))

sum_sized : (i j : ℕ) (x y : ℤ) → IsWithin i x → IsWithin j y → IsWithin (i + j) (x +ℤ y)
sum_sized i j x y h k = (omega (arith, ints), omega (arith, ints))

above_within : (i j : ℕ) (x y : ℤ) → i + j ≤ 10 → IsWithin i x → IsWithin j y → IsWithin (i + j) (sum_above x y)
above_within i j x y few h k =
    let a = upper_within i x (omega (arith, few)) h in
    let b = upper_within j y (omega (arith, few)) k in
    subst (IsWithin (i + j)) (sym (ap (λ e. lane_of (ext_plus e (upper y))) a
    ∙ ap (λ e. lane_of (ext_plus (Int x) e)) b))
    (clamp_within (i + j) (x +ℤ y) (sum_sized i j x y h k))

below_within : (i j : ℕ) (x y : ℤ) → i + j ≤ 10 → IsWithin i x → IsWithin j y → IsWithin (i + j) (sum_below x y)
below_within i j x y few h k =
    let a = upper_within i x (omega (arith, few)) h in
    let b = upper_within j y (omega (arith, few)) k in
    subst (IsWithin (i + j))
    (sym (ap (λ e. lane_of (negated (ext_plus (negated e) (negated (upper y))))) a
    ∙ ap (λ e. lane_of (negated (ext_plus (Int (neg_ℤ x)) (negated e)))) b))
    (neg_within (i + j) (clamp (neg_ℤ x +ℤ neg_ℤ y))
    (clamp_within (i + j) (neg_ℤ x +ℤ neg_ℤ y) (sum_sized i j (neg_ℤ x) (neg_ℤ y) (neg_within i x h)
    (neg_within j y k))))

pub any_within : (o : Op) (i j : ℕ) (a b : Ends) → i + j ≤ 10 → AreWithin i a → AreWithin j b →
    AreWithin (i + j) (folded_by o a b)
any_within Add i j a b few p q =
    (below_within i j a.below b.below few p.0 q.0, above_within i j a.above b.above few p.1 q.1)
any_within Max i j a b few p q = greater_within i j a b p q
any_within Min i j a b few p q = lesser_within i j a b p q
