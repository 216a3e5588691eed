-- What is found between two values where D and F hold no cell yet, and which values compare with a next one.
use Rattle.std.proofs.Common.{◌≡◌, ◌⊎◌, inl, inr, ◌≤ℤ◌, ◌<ℤ◌, ◌+ℤ◌, ◌-ℤ◌, ℕ, suc, ◌+◌, ◌<◌, ℤ, pos, negsuc, neg_ℤ, Bool, true, false, cond, ◌&&◌, ◌||◌, int_le, int_lt, List, refl, sym, ap, subst, ◌∙◌, arith}
use Rattle.std.specs.Int.{int_max, int_min}
use Rattle.std.specs.Ordering.{int_eq}
use Rattle.std.proofs.lemmas.Int.{ints, clamps}
use Rattle.ts_base.specs.Numbers.{clamp}
use Rattle.ts_base.specs.declared.letter.Letter.{Letter}
use Rattle.ts_base.specs.declared.letter.Letter.TheVariants.{Less, Equal, Greater}
use Rattle.ts_base.specs.declared.op.Op.{Op}
use Rattle.ts_base.specs.declared.op.Op.TheVariants.{Add, Max, Min}
use Rattle.ts_automaton.specs.declared.expr.Atom.TheVariants.{E as AtomE, Zero}
use Rattle.ts_automaton.specs.Formula.{Leaf}
use Rattle.ts_sweep.specs.declared.packed.Ends.{Ends}
use Rattle.ts_sweep.specs.declared.packed.Name.TheVariants.{D, E, F}
use Rattle.ts_sweep.specs.FrontLaws.{never_added}
use Rattle.ts_base.specs.Signature.{letter_of}
use Rattle.ts_hull.specs.Sweeps.{compares, same_letter}
use Rattle.ts_hull.proofs.Letters.{equal_is}
use Rattle.ts_sweep.specs.Lanes.{least}
use Rattle.ts_sweep.specs.Operators.{crossed, sum_of_ends}
use Rattle.ts_sweep.specs.Packed.{AreWithin, IsWithin, ends, ends_in, name_ends, number_ends, place_in}
use Rattle.ts_sweep.specs.PairMoves.{IsBegun, found_ends, pair_found, reach_by, reaches, start_ends}
use Rattle.ts_sweep.specs.Sides.{Sides, BothEnds, UpperEnds, LowerEnds, filled, kept_ends}
use Rattle.ts_sweep.specs.Small.{IsSmall}
use Rattle.ts_sweep.specs.Trees.{folded_by, joined_by, sum_above, sum_below, tree_value}
use Rattle.ts_sweep.proofs.Entries.{passes_is}
use Rattle.ts_sweep.proofs.PairSteps.{before_or}
use Rattle.ts_sweep.proofs.RunSteps.{as_passed}
use Rattle.ts_sweep.proofs.TreeSums.{above_numbers, below_numbers}
use mir.Syntax.{w64}
use mir.Val.{of_z, to_z}

-- an operator makes each end that is kept of those that are kept
pub kept_joined : (s : Sides) (o : Op) (r a b : Ends) → kept_ends s a ≡ kept_ends s b → kept_ends s (folded_by o r a) ≡ kept_ends s (folded_by o r b)
kept_joined BothEnds o r a b h = ap (folded_by o r) h
kept_joined UpperEnds Add r a b h = ap (λ z. ends (filled (sum_above r.above z)) (sum_above r.above z)) (ap (λ e. e.above) h)
kept_joined UpperEnds Max r a b h = ap (λ z. ends (filled (int_max r.above z)) (int_max r.above z)) (ap (λ e. e.above) h)
kept_joined UpperEnds Min r a b h = ap (λ z. ends (filled (int_min r.above z)) (int_min r.above z)) (ap (λ e. e.above) h)
kept_joined LowerEnds Add r a b h = ap (λ z. ends (sum_below r.below z) (filled (sum_below r.below z))) (ap (λ e. e.below) h)
kept_joined LowerEnds Max r a b h = ap (λ z. ends (int_min r.below z) (filled (int_min r.below z))) (ap (λ e. e.below) h)
kept_joined LowerEnds Min r a b h = ap (λ z. ends (int_max r.below z) (filled (int_max r.below z))) (ap (λ e. e.below) h)

-- the greater and the lesser of two small numbers, from an infinity on, as lanes

most_below : (x y : ℤ) → IsSmall x → IsSmall y → neg_ℤ (int_max x y) ≡ int_min (int_min (pos 9223372036854775807) (neg_ℤ x)) (neg_ℤ y)
most_below x y h k = let a = h.0 in let b = k.0 in grind (arith, ints)

most_above : (x y : ℤ) → IsSmall x → IsSmall y → int_max x y ≡ int_max (int_max (negsuc 9223372036854775806) x) y
most_above x y h k = let a = h.0 in let b = k.0 in grind (arith, ints)

least_below : (x y : ℤ) → IsSmall x → IsSmall y → neg_ℤ (int_min x y) ≡ int_max (int_max (negsuc 9223372036854775806) (neg_ℤ x)) (neg_ℤ y)
least_below x y h k = let a = h.1 in let b = k.1 in grind (arith, ints)

least_above : (x y : ℤ) → IsSmall x → IsSmall y → int_min x y ≡ int_min (int_min (pos 9223372036854775807) x) y
least_above x y h k = let a = h.1 in let b = k.1 in grind (arith, ints)

pub most_small : (x y : ℤ) → IsSmall x → IsSmall y → IsSmall (int_max x y)
most_small x y h k = let a = h.0 in let b = k.0 in let c = h.1 in let d = k.1 in (grind (arith, ints), grind (arith, ints))

pub least_small : (x y : ℤ) → IsSmall x → IsSmall y → IsSmall (int_min x y)
least_small x y h k = let a = h.0 in let b = k.0 in let c = h.1 in let d = k.1 in (grind (arith, ints), grind (arith, ints))

-- the difference of two small numbers isn't clamped

less_below : (a b : ℤ) → IsSmall a → IsSmall b → (b -ℤ a) ≡ sum_below (neg_ℤ a) b
less_below a b h k =
    let p = h.0 in let q = h.1 in let u = k.0 in let v = k.1 in
    let same : (b -ℤ a) ≡ clamp (neg_ℤ a +ℤ b) = omega (arith, ints, clamps) in
    same ∙ below_numbers (neg_ℤ a) b (omega (arith, ints, p, q)) (omega (arith, ints, p, q)) (omega (arith, ints, u, v)) (omega (arith, ints, u, v))

less_above : (a b : ℤ) → IsSmall a → IsSmall b → (a -ℤ b) ≡ sum_above a (neg_ℤ b)
less_above a b h k =
    let p = h.0 in let q = h.1 in let u = k.0 in let v = k.1 in
    let same : (a -ℤ b) ≡ clamp (a +ℤ neg_ℤ b) = omega (arith, ints, clamps) in
    same ∙ above_numbers a (neg_ℤ b) (omega (arith, ints, p, q)) (omega (arith, ints, p, q)) (omega (arith, ints, u, v)) (omega (arith, ints, u, v))

both_ends : (a b c d : ℤ) → a ≡ c → b ≡ d → ends a b ≡ ends c d
both_ends a b c d p q = cc

-- D or F that holds no cell yet, joined with both cells
most_ends : (x y : ℤ) → IsSmall x → IsSmall y → number_ends (int_max x y)
    ≡ folded_by Max (folded_by Max (start_ends Max) (number_ends x)) (number_ends y)
most_ends x y h k = both_ends _ _ _ _ (most_below x y h k) (most_above x y h k)

least_ends : (x y : ℤ) → IsSmall x → IsSmall y → number_ends (int_min x y)
    ≡ folded_by Min (folded_by Min (start_ends Min) (number_ends x)) (number_ends y)
least_ends x y h k = both_ends _ _ _ _ (least_below x y h k) (least_above x y h k)

-- the sum of small ends isn't clamped

add_below : (x y : ℤ) → IsWithin 1 x → IsWithin 1 y → (x +ℤ y) ≡ sum_below x y
add_below x y h k =
    let p = h.0 in let q = h.1 in let u = k.0 in let v = k.1 in
    let same : (x +ℤ y) ≡ clamp (x +ℤ y) = omega (arith, ints, clamps) in
    same ∙ below_numbers x y (omega (arith, ints, p, q)) (omega (arith, ints, p, q)) (omega (arith, ints, u, v)) (omega (arith, ints, u, v))

add_above : (x y : ℤ) → IsWithin 1 x → IsWithin 1 y → (x +ℤ y) ≡ sum_above x y
add_above x y h k =
    let p = h.0 in let q = h.1 in let u = k.0 in let v = k.1 in
    let same : (x +ℤ y) ≡ clamp (x +ℤ y) = omega (arith, ints, clamps) in
    same ∙ above_numbers x y (omega (arith, ints, p, q)) (omega (arith, ints, p, q)) (omega (arith, ints, u, v)) (omega (arith, ints, u, v))

-- D that is 0, with both cells added

small_one : (x : ℤ) → IsSmall x → IsWithin 1 x
small_one x h = let p = h.0 in let q = h.1 in (omega (arith, ints, p), omega (arith, ints, q))

negated_one : (x : ℤ) → IsSmall x → IsWithin 1 (neg_ℤ x)
negated_one x h = let p = h.0 in let q = h.1 in (omega (arith, ints, q), omega (arith, ints, p))

zero_one : IsWithin 1 (pos 0)
zero_one = (omega (arith, ints), omega (arith, ints))

zero_left : (x : ℤ) → IsWithin 1 x → IsWithin 1 (pos 0 +ℤ x)
zero_left x h = let p = h.0 in let q = h.1 in (omega (arith, ints, p), omega (arith, ints, q))

sum_above_start : (x y : ℤ) → IsSmall x → IsSmall y → (x +ℤ y) ≡ sum_above (sum_above (pos 0) x) y
sum_above_start x y h k =
    let plain : (x +ℤ y) ≡ (pos 0 +ℤ x) +ℤ y = omega (arith, ints) in
    plain ∙ add_above (pos 0 +ℤ x) y (zero_left x (small_one x h)) (small_one y k)
    ∙ ap (λ z. sum_above z y) (add_above (pos 0) x zero_one (small_one x h))

sum_below_start : (x y : ℤ) → IsSmall x → IsSmall y → neg_ℤ (x +ℤ y) ≡ sum_below (sum_below (pos 0) (neg_ℤ x)) (neg_ℤ y)
sum_below_start x y h k =
    let plain : neg_ℤ (x +ℤ y) ≡ (pos 0 +ℤ neg_ℤ x) +ℤ neg_ℤ y = omega (arith, ints) in
    plain ∙ add_below (pos 0 +ℤ neg_ℤ x) (neg_ℤ y) (zero_left (neg_ℤ x) (negated_one x h)) (negated_one y k)
    ∙ ap (λ z. sum_below z (neg_ℤ y)) (add_below (pos 0) (neg_ℤ x) zero_one (negated_one x h))

sum_ends : (x y : ℤ) → IsSmall x → IsSmall y → number_ends (x +ℤ y)
    ≡ folded_by Add (folded_by Add (start_ends Add) (number_ends x)) (number_ends y)
sum_ends x y h k = both_ends _ _ _ _ (sum_below_start x y h k) (sum_above_start x y h k)

-- what a narrow move finds
narrow_found : (s : Sides) (cells : Op) (xs : List ℤ) (x y : ℤ) → IsBegun s false cells xs → IsSmall x → IsSmall y →
    kept_ends s (found_ends false cells x y) ≡ kept_ends s (tree_value (pair_found false cells) xs x y)
narrow_found BothEnds Add xs x y begun h k =
    sum_ends x y h k ∙ ap (λ d. folded_by Add (folded_by Add d (number_ends x)) (number_ends y)) (sym begun.0)
narrow_found UpperEnds Add xs x y begun h k =
    ap (λ z. ends (filled z) z) (sum_above_start x y h k ∙ ap (λ d. sum_above (sum_above d.above x) y) (sym begun.0))
narrow_found LowerEnds Add xs x y begun h k =
    ap (λ z. ends z (filled z)) (sum_below_start x y h k ∙ ap (λ d. sum_below (sum_below d.below (neg_ℤ x)) (neg_ℤ y)) (sym begun.0))
narrow_found BothEnds Max xs x y begun h k =
    most_ends x y h k ∙ ap (λ d. folded_by Max (folded_by Max d (number_ends x)) (number_ends y)) (sym begun.0)
narrow_found BothEnds Min xs x y begun h k =
    least_ends x y h k ∙ ap (λ d. folded_by Min (folded_by Min d (number_ends x)) (number_ends y)) (sym begun.0)
narrow_found UpperEnds Max xs x y begun h k =
    ap (λ z. ends (filled z) z) (most_above x y h k ∙ ap (λ d. int_max (int_max d.above x) y) (sym begun.0))
narrow_found UpperEnds Min xs x y begun h k =
    ap (λ z. ends (filled z) z) (least_above x y h k ∙ ap (λ d. int_min (int_min d.above x) y) (sym begun.0))
narrow_found LowerEnds Max xs x y begun h k =
    ap (λ z. ends z (filled z)) (most_below x y h k ∙ ap (λ d. int_min (int_min d.below (neg_ℤ x)) (neg_ℤ y)) (sym begun.0))
narrow_found LowerEnds Min xs x y begun h k =
    ap (λ z. ends z (filled z)) (least_below x y h k ∙ ap (λ d. int_max (int_max d.below (neg_ℤ x)) (neg_ℤ y)) (sym begun.0))

-- what a wide move finds
wide_found : (xs : List ℤ) (x y : ℤ) → IsBegun BothEnds true Max xs → IsSmall x → IsSmall y →
    found_ends true Max x y ≡ tree_value (pair_found true Max) xs x y
wide_found xs x y begun h k =
    let most = most_small x y h k in
    let least = least_small x y h k in
    both_ends _ _ _ _ (less_below (int_max x y) (int_min x y) most least) (less_above (int_max x y) (int_min x y) most least)
    ∙ ap (λ a. folded_by Add a (crossed (number_ends (int_min x y))))
    (most_ends x y h k ∙ ap (λ d. folded_by Max (folded_by Max d (number_ends x)) (number_ends y)) (sym begun.0))
    ∙ ap (λ b. folded_by Add (folded_by Max (folded_by Max (name_ends xs D) (number_ends x)) (number_ends y)) (crossed b))
    (least_ends x y h k ∙ ap (λ d. folded_by Min (folded_by Min d (number_ends x)) (number_ends y)) (sym begun.1))

pub found_kept : (s : Sides) (wide : Bool) (cells : Op) (xs : List ℤ) (x y : ℤ) → (s ≡ BothEnds) ⊎ (wide ≡ false) → (wide ≡ true → cells ≡ Max) →
    IsBegun s wide cells xs → IsSmall x → IsSmall y →
    kept_ends s (found_ends wide cells x y) ≡ kept_ends s (tree_value (pair_found wide cells) xs x y)
found_kept s false cells xs x y alone one begun h k = narrow_found s cells xs x y begun h k
found_kept BothEnds true Max xs x y alone one begun h k = wide_found xs x y begun h k
found_kept UpperEnds true Max xs x y alone one begun h k = elim alone [ inl e ↦ cc | inr e ↦ cc ]
found_kept LowerEnds true Max xs x y alone one begun h k = elim alone [ inl e ↦ cc | inr e ↦ cc ]
found_kept s true Add xs x y alone one begun h k = let e = one refl in cc
found_kept s true Min xs x y alone one begun h k = let e = one refl in cc

-- E of an emission: a narrow hull has no lanes for it
pub held_is : (wide : Bool) (xs : List ℤ) (e : Ends) (x y : ℤ) → e ≡ ends_in xs (place_in wide E) → e ≡ name_ends xs E →
    e ≡ tree_value (Leaf (cond wide AtomE Zero)) xs x y
held_is true xs e x y placed named = named
held_is false xs e x y placed named = placed

pub add_ends : (a b : Ends) → AreWithin 1 a → AreWithin 1 b → sum_of_ends a b ≡ folded_by Add a b
add_ends a b h k = both_ends _ _ _ _ (add_below a.below b.below h.0 k.0) (add_above a.above b.above h.1 k.1)

nine_one : (x : ℤ) → IsWithin 1 x → IsWithin 9 x
nine_one x h = let p = h.0 in let q = h.1 in (omega (arith, ints, p), omega (arith, ints, q))

pub more_within : (a : Ends) → AreWithin 1 a → AreWithin 9 a
more_within a h = (nine_one a.below h.0, nine_one a.above h.1)

-- what is found is small
number_within : (x : ℤ) → IsSmall x → AreWithin 1 (number_ends x)
number_within x h = let p = h.0 in let q = h.1 in ((omega (arith, ints, q), omega (arith, ints, p)), (omega (arith, ints, p), omega (arith, ints, q)))

less_within : (a b : ℤ) → IsSmall a → IsSmall b → IsWithin 1 (a -ℤ b)
less_within a b h k = let p = h.0 in let q = h.1 in let u = k.0 in let v = k.1 in (omega (arith, ints, p, q, u, v), omega (arith, ints, p, q, u, v))

both_within : (x y : ℤ) → IsSmall x → IsSmall y → AreWithin 1 (number_ends (x +ℤ y))
both_within x y h k =
    let p = h.0 in let q = h.1 in let u = k.0 in let v = k.1 in
    ((omega (arith, ints, q, v), omega (arith, ints, p, u)), (omega (arith, ints, p, u), omega (arith, ints, q, v)))

pub found_within : (wide : Bool) (cells : Op) (x y : ℤ) → IsSmall x → IsSmall y → AreWithin 1 (found_ends wide cells x y)
found_within true cells x y h k = (
  less_within (int_min x y) (int_max x y) (least_small x y h k) (most_small x y h k),
  less_within (int_max x y) (int_min x y) (most_small x y h k) (least_small x y h k),
)
found_within false Add x y h k = both_within x y h k
found_within false Max x y h k = number_within (int_max x y) (most_small x y h k)
found_within false Min x y h k = number_within (int_min x y) (least_small x y h k)

-- the values between the bounds are those that compare

above_least : (v : ℤ) → IsSmall v → int_le least v ≡ true
above_least v h = let a = h.0 in grind (arith, ints)

below_most : (v : ℤ) → IsSmall v → int_le v (pos 9223372036854775807) ≡ true
below_most v h = let a = h.1 in grind (arith, ints)

le_before : (v w : ℤ) → int_le v (w -ℤ pos 1) ≡ int_lt v w
le_before v w = grind (arith, ints)

le_after : (v w : ℤ) → int_le (w +ℤ pos 1) v ≡ int_lt w v
le_after v w = grind (arith, ints)

le_both : (v w : ℤ) → (int_le w v && int_le v w) ≡ int_eq v w
le_both v w = grind (arith, ints)

and_true : (a b : Bool) → b ≡ true → (a && b) ≡ a
and_true true b h = h
and_true false b h = refl

either : (twin b : Bool) → b ≡ cond twin (b || b) b
either true true = refl
either true false = refl
either false b = refl

pub reach_compares : (l : Letter) (twin : Bool) (v w : ℤ) → IsSmall v → reaches (reach_by l twin w) v ≡ compares l twin v w
reach_compares Less false v w h = ap (λ b. b && int_le v (w -ℤ pos 1)) (above_least v h) ∙ le_before v w ∙ passes_is true false v w
reach_compares Less true v w h = ap (λ b. b && int_le v w) (above_least v h) ∙ passes_is true true v w
reach_compares Equal twin v w h =
    le_both v w ∙ sym (equal_is v w) ∙ either twin (same_letter (letter_of v w) Equal)
reach_compares Greater false v w h = and_true (int_le (w +ℤ pos 1) v) _ (below_most v h) ∙ le_after v w ∙ passes_is false false v w
reach_compares Greater true v w h = and_true (int_le w v) _ (below_most v h) ∙ passes_is false true v w

-- what holds of each number before i, and of i, holds of each number before i + 1
pub so_far : (P : ℕ → Type 0) (i : ℕ) → ((k : ℕ) → k < i → P k) → P i → (k : ℕ) → k < i + 1 → P k
so_far P i rest here k lt = elim (before_or k i (omega (arith, lt))) [ inl less ↦ rest k less | inr same ↦ subst P (sym same) here ]

-- a number as it is passed on
pub to_passed : (P : ℤ → Type 0) (x : ℤ) → IsSmall x → P x → P (to_z w64 (of_z w64 x))
to_passed P x small p = as_passed (λ z. P z → P (to_z w64 (of_z w64 x))) x small (λ h. h) p
