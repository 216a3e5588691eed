-- Emissions that join R with the cell that is found, or add what is found: a letter says which of two cells is the greater, so that they make the
-- same as a move that is swept.
use Rattle.std.proofs.Common.{◌≡◌, ◌⊎◌, inl, inr, ◌≤ℤ◌, ◌+ℤ◌, ◌-ℤ◌, ℕ, ◌<◌, ◌≤◌, ℤ, pos, neg_ℤ, Bool, true, false, cond, int_le, List, get_or, refl, sym, ap, subst, ◌∙◌, arith}
use Rattle.std.specs.Int.{int_max, int_min}
use Rattle.std.specs.List.{AllByRecursion}
use Rattle.std.proofs.lemmas.Bool.{and_parts}
use Rattle.std.proofs.lemmas.Int.{ints, clamps}
use Rattle.ts_base.specs.Numbers.{clamp}
use Rattle.ts_base.specs.declared.letter.Letter.{Letter}
use Rattle.ts_base.specs.declared.letter.Letter.TheVariants.{Less, Equal, Greater}
use Rattle.ts_base.specs.declared.op.Op.{Op}
use Rattle.ts_base.specs.declared.op.Op.TheVariants.{Add, Max}
use Rattle.ts_automaton.specs.declared.expr.Atom.TheVariants.{C as AtomC, R as AtomR, This, Next, NegInf as LowAtom, PosInf as HighAtom}
use Rattle.ts_automaton.specs.declared.expr.Operator.TheVariants.{Fold, Sub}
use Rattle.ts_automaton.specs.declared.regs.Hull.{Hull}
use Rattle.ts_automaton.specs.Body.{Move, move_of}
use Rattle.ts_automaton.specs.Formula.{Formula, Leaf, Join, is_narrow, is_zero}
use Rattle.ts_automaton.specs.Registers.{EachOf, each, in_order, rests}
use Rattle.ts_hull.specs.Hulls.{none, hull_of_both}
use Rattle.ts_hull.specs.Sealed.{after_move}
use Rattle.ts_hull.specs.Sweeps.{compares, total as hull_total}
use Rattle.ts_hull.proofs.Sums.{total_same}
use Rattle.ts_sweep.specs.declared.packed.Ends.{Ends}
use Rattle.ts_sweep.specs.declared.packed.Name.TheVariants.{R}
use Rattle.ts_sweep.specs.declared.pair_move.Emission.{Emission}
use Rattle.ts_sweep.specs.Columns.{IsMoved, IsTurned, gives, gives_turned, hull_at}
use Rattle.ts_sweep.specs.Fronts.{IsFor, IsMoveFor}
use Rattle.ts_sweep.specs.Lanes.{least, some_lanes}
use Rattle.ts_sweep.specs.Moves.{beside, of_name, with_all}
use Rattle.ts_sweep.specs.MoveLaws.{all_kept}
use Rattle.ts_sweep.specs.Packed.{ArePacked, AreWithin, IsPacked, IsWithin, ends, is_wide, name_ends, number_ends, unpacked}
use Rattle.ts_sweep.specs.PairMoves.{IsBegun, IsEmitted, emission, found_atom, found_ends, held_atom, open_atom, pair_found, pair_op, start_atom}
use Rattle.ts_sweep.specs.Sides.{Sides, BothEnds, UpperEnds, LowerEnds, as_read, kept_ends, seen_hull}
use Rattle.ts_sweep.specs.SidesLaws.{narrow_or_both}
use Rattle.ts_sweep.specs.Small.{IsSmall}
use Rattle.ts_sweep.specs.Trees.{folded_by, sum_above, sum_below, tree_value}
use Rattle.ts_sweep.proofs.PairLaws.{found_kept, found_within, kept_joined, reach_compares}
use Rattle.ts_sweep.proofs.PairSteps.{moved_nothing, moved_some}
use Rattle.ts_sweep.proofs.SeenLaws.{seen_total}
use Rattle.ts_sweep.proofs.TreeSums.{above_numbers, below_numbers}
use Rattle.ts_sweep.proofs.TurnedMoves.{turned_small}

-- the lesser and the greater of two values that compare

below_next : (twin : Bool) (v w : ℤ) → IsSmall v → compares Less twin v w ≡ true → v ≤ℤ w
below_next false v w small is =
    let h : int_le v (w -ℤ pos 1) ≡ true = (and_parts (int_le least v) (int_le v (w -ℤ pos 1)) (reach_compares Less false v w small ∙ is)).1 in
    grind (arith, ints, h)
below_next true v w small is =
    let h : int_le v w ≡ true = (and_parts (int_le least v) (int_le v w) (reach_compares Less true v w small ∙ is)).1 in grind (arith, ints, h)

above_next : (twin : Bool) (v w : ℤ) → IsSmall v → compares Greater twin v w ≡ true → w ≤ℤ v
above_next false v w small is =
    let h : int_le (w +ℤ pos 1) v ≡ true =
    (and_parts (int_le (w +ℤ pos 1) v) (int_le v (pos 9223372036854775807)) (reach_compares Greater false v w small ∙ is)).0 in
    grind (arith, ints, h)
above_next true v w small is =
    let h : int_le w v ≡ true = (and_parts (int_le w v) (int_le v (pos 9223372036854775807)) (reach_compares Greater true v w small ∙ is)).0 in
    grind (arith, ints, h)

most_next : (v w : ℤ) → v ≤ℤ w → w ≡ int_max v w
most_next v w h = grind (arith, ints)

most_this : (v w : ℤ) → w ≤ℤ v → v ≡ int_max v w
most_this v w h = grind (arith, ints)

least_next : (v w : ℤ) → w ≤ℤ v → w ≡ int_min v w
least_next v w h = grind (arith, ints)

least_this : (v w : ℤ) → v ≤ℤ w → v ≡ int_min v w
least_this v w h = grind (arith, ints)

-- which of two cells that compare is found

cell_is : (l : Letter) (twin greatest : Bool) (xs : List ℤ) (v w : ℤ) → IsSmall v → compares l twin v w ≡ true →
    tree_value (Leaf (found_atom l greatest)) xs v w ≡ found_ends false (pair_op greatest) v w
cell_is Less twin true xs v w small is = ap number_ends (most_next v w (below_next twin v w small is))
cell_is Less twin false xs v w small is = ap number_ends (least_this v w (below_next twin v w small is))
cell_is Greater twin true xs v w small is = ap number_ends (most_this v w (above_next twin v w small is))
cell_is Greater twin false xs v w small is = ap number_ends (least_next v w (above_next twin v w small is))
cell_is Equal twin true xs v w small is =
    let h : int_le w v ≡ true = (and_parts (int_le w v) (int_le v w) (reach_compares Equal twin v w small ∙ is)).0 in
    ap number_ends (most_this v w (grind (arith, ints, h)))
cell_is Equal twin false xs v w small is =
    let h : int_le v w ≡ true = (and_parts (int_le w v) (int_le v w) (reach_compares Equal twin v w small ∙ is)).1 in
    ap number_ends (least_this v w (grind (arith, ints, h)))

cell_joined : (s : Sides) (o : Op) (l : Letter) (twin greatest : Bool) (xs : List ℤ) (v w : ℤ) → IsBegun s false (pair_op greatest) xs → IsSmall v →
    IsSmall w → compares l twin v w ≡ true → kept_ends s (tree_value (Join (Fold o) (Leaf AtomR) (Leaf (found_atom l greatest))) xs v w)
    ≡ kept_ends s (tree_value (Join (Fold o) (Leaf AtomR) (pair_found false (pair_op greatest))) xs v w)
cell_joined s o l twin greatest xs v w begun sv sw is =
    kept_joined s o (name_ends xs R) (tree_value (Leaf (found_atom l greatest)) xs v w) (tree_value (pair_found false (pair_op greatest)) xs v w)
    (ap (kept_ends s) (cell_is l twin greatest xs v w sv is) ∙ found_kept s false (pair_op greatest) xs v w (inr refl) (λ e. cc) begun sv sw)

-- sums of few small numbers aren't clamped

plain_below : (x y : ℤ) → IsWithin 2 x → IsWithin 1 y → (x +ℤ y) ≡ sum_below x y
plain_below x y h k =
    let p = h.0 in let q = h.1 in let u = k.0 in let v = k.1 in
    let same : (x +ℤ y) ≡ clamp (x +ℤ y) = omega (arith, ints, clamps) in
    same ∙ below_numbers x y (omega (arith, ints, p, q)) (omega (arith, ints, p, q)) (omega (arith, ints, u, v)) (omega (arith, ints, u, v))

plain_above : (x y : ℤ) → IsWithin 2 x → IsWithin 1 y → (x +ℤ y) ≡ sum_above x y
plain_above x y h k =
    let p = h.0 in let q = h.1 in let u = k.0 in let v = k.1 in
    let same : (x +ℤ y) ≡ clamp (x +ℤ y) = omega (arith, ints, clamps) in
    same ∙ above_numbers x y (omega (arith, ints, p, q)) (omega (arith, ints, p, q)) (omega (arith, ints, u, v)) (omega (arith, ints, u, v))

twice_within : (x : ℤ) → IsWithin 1 x → IsWithin 2 x
twice_within x h = let p = h.0 in let q = h.1 in (omega (arith, ints, p), omega (arith, ints, q))

small_within : (x : ℤ) → IsSmall x → IsWithin 1 x
small_within x h = let p = h.0 in let q = h.1 in (omega (arith, ints, p), omega (arith, ints, q))

small_negated : (x : ℤ) → IsSmall x → IsWithin 1 (neg_ℤ x)
small_negated x h = let p = h.0 in let q = h.1 in (omega (arith, ints, q), omega (arith, ints, p))

sum_within : (x y : ℤ) → IsWithin 1 x → IsWithin 1 y → IsWithin 2 (x +ℤ y)
sum_within x y h k =
    let p = h.0 in let q = h.1 in let u = k.0 in let v = k.1 in (omega (arith, ints, p, u), omega (arith, ints, q, v))

risen_below : (x v w : ℤ) → v ≤ℤ w → ((x +ℤ v) +ℤ neg_ℤ w) ≡ x +ℤ (int_min v w -ℤ int_max v w)
risen_below x v w h =
    let plain : ((x +ℤ v) +ℤ neg_ℤ w) ≡ x +ℤ (v -ℤ w) = omega (arith, ints) in
    plain ∙ ap (λ z. x +ℤ (z -ℤ w)) (least_this v w h) ∙ ap (λ z. x +ℤ (int_min v w -ℤ z)) (most_next v w h)

risen_above : (x v w : ℤ) → v ≤ℤ w → ((x +ℤ neg_ℤ v) +ℤ w) ≡ x +ℤ (int_max v w -ℤ int_min v w)
risen_above x v w h =
    let plain : ((x +ℤ neg_ℤ v) +ℤ w) ≡ x +ℤ (w -ℤ v) = omega (arith, ints) in
    plain ∙ ap (λ z. x +ℤ (z -ℤ v)) (most_next v w h) ∙ ap (λ z. x +ℤ (int_max v w -ℤ z)) (least_this v w h)

-- the difference of two cells that rise is added cell by cell

rise_below : (x v w : ℤ) → IsWithin 1 x → IsSmall v → IsSmall w → v ≤ℤ w →
    sum_below (sum_below x v) (neg_ℤ w) ≡ sum_below x (int_min v w -ℤ int_max v w)
rise_below x v w h sv sw le =
    ap (λ z. sum_below z (neg_ℤ w)) (sym (plain_below x v (twice_within x h) (small_within v sv)))
    ∙ sym (plain_below (x +ℤ v) (neg_ℤ w) (sum_within x v h (small_within v sv)) (small_negated w sw)) ∙ risen_below x v w le
    ∙ plain_below x (int_min v w -ℤ int_max v w) (twice_within x h) (found_within true Max v w sv sw).0

rise_above : (x v w : ℤ) → IsWithin 1 x → IsSmall v → IsSmall w → v ≤ℤ w →
    sum_above (sum_above x (neg_ℤ v)) w ≡ sum_above x (int_max v w -ℤ int_min v w)
rise_above x v w h sv sw le =
    ap (λ z. sum_above z w) (sym (plain_above x (neg_ℤ v) (twice_within x h) (small_negated v sv)))
    ∙ sym (plain_above (x +ℤ neg_ℤ v) w (sum_within x (neg_ℤ v) h (small_negated v sv)) (small_within w sw)) ∙ risen_above x v w le
    ∙ plain_above x (int_max v w -ℤ int_min v w) (twice_within x h) (found_within true Max v w sv sw).1

fallen_below : (x v w : ℤ) → w ≤ℤ v → ((x +ℤ neg_ℤ v) +ℤ neg_ℤ (neg_ℤ w)) ≡ x +ℤ (int_min v w -ℤ int_max v w)
fallen_below x v w h =
    let plain : ((x +ℤ neg_ℤ v) +ℤ neg_ℤ (neg_ℤ w)) ≡ x +ℤ (w -ℤ v) = omega (arith, ints) in
    plain ∙ ap (λ z. x +ℤ (z -ℤ v)) (least_next v w h) ∙ ap (λ z. x +ℤ (int_min v w -ℤ z)) (most_this v w h)

fallen_above : (x v w : ℤ) → w ≤ℤ v → ((x +ℤ v) +ℤ neg_ℤ w) ≡ x +ℤ (int_max v w -ℤ int_min v w)
fallen_above x v w h =
    let plain : ((x +ℤ v) +ℤ neg_ℤ w) ≡ x +ℤ (v -ℤ w) = omega (arith, ints) in
    plain ∙ ap (λ z. x +ℤ (z -ℤ w)) (most_this v w h) ∙ ap (λ z. x +ℤ (int_max v w -ℤ z)) (least_next v w h)

-- the difference of two cells that fall is added cell by cell, where the next one is negated

fall_below : (x v w : ℤ) → IsWithin 1 x → IsSmall v → IsSmall w → w ≤ℤ v →
    sum_below (sum_below x (neg_ℤ v)) (neg_ℤ (neg_ℤ w)) ≡ sum_below x (int_min v w -ℤ int_max v w)
fall_below x v w h sv sw le =
    ap (λ z. sum_below z (neg_ℤ (neg_ℤ w))) (sym (plain_below x (neg_ℤ v) (twice_within x h) (small_negated v sv)))
    ∙ sym (plain_below (x +ℤ neg_ℤ v) (neg_ℤ (neg_ℤ w)) (sum_within x (neg_ℤ v) h (small_negated v sv)) (small_negated (neg_ℤ w) (turned_small w sw)))
    ∙ fallen_below x v w le ∙ plain_below x (int_min v w -ℤ int_max v w) (twice_within x h) (found_within true Max v w sv sw).0

fall_above : (x v w : ℤ) → IsWithin 1 x → IsSmall v → IsSmall w → w ≤ℤ v →
    sum_above (sum_above x v) (neg_ℤ w) ≡ sum_above x (int_max v w -ℤ int_min v w)
fall_above x v w h sv sw le =
    ap (λ z. sum_above z (neg_ℤ w)) (sym (plain_above x v (twice_within x h) (small_within v sv)))
    ∙ sym (plain_above (x +ℤ v) (neg_ℤ w) (sum_within x v h (small_within v sv)) (small_negated w sw)) ∙ fallen_above x v w le
    ∙ plain_above x (int_max v w -ℤ int_min v w) (twice_within x h) (found_within true Max v w sv sw).1

same_ends : (a b c d : ℤ) → a ≡ c → b ≡ d → ends a b ≡ ends c d
same_ends a b c d p q = cc

-- R, less the cell, and the next one
abbrev pub rise_added : Formula
rise_added = Join (Fold Add) (Join Sub (Leaf AtomR) (Leaf This)) (Leaf Next)

rise_is : (xs : List ℤ) (v w : ℤ) → IsBegun BothEnds true Max xs → AreWithin 1 (name_ends xs R) → IsSmall v → IsSmall w → v ≤ℤ w →
    tree_value rise_added xs v w ≡ tree_value (Join (Fold Add) (Leaf AtomR) (pair_found true Max)) xs v w
rise_is xs v w begun plain sv sw le =
    let r = name_ends xs R in
    same_ends _ _ _ _ (rise_below r.below v w plain.0 sv sw le) (rise_above r.above v w plain.1 sv sw le)
    ∙ ap (folded_by Add r) (found_kept BothEnds true Max xs v w (inl refl) (λ e. refl) begun sv sw)

-- R, the cell, and the next one, which is negated
abbrev pub fall_added : Formula
fall_added = Join (Fold Add) (Join (Fold Add) (Leaf AtomR) (Leaf This)) (Leaf Next)

fall_is : (xs : List ℤ) (v w : ℤ) → IsBegun BothEnds true Max xs → AreWithin 1 (name_ends xs R) → IsSmall v → IsSmall w → w ≤ℤ v →
    tree_value fall_added xs v (neg_ℤ w) ≡ tree_value (Join (Fold Add) (Leaf AtomR) (pair_found true Max)) xs v w
fall_is xs v w begun plain sv sw le =
    let r = name_ends xs R in
    same_ends _ _ _ _ (fall_below r.below v w plain.0 sv sw le) (fall_above r.above v w plain.1 sv sw le)
    ∙ ap (folded_by Add r) (found_kept BothEnds true Max xs v w (inl refl) (λ e. refl) begun sv sw)

-- moves that make the same of each hull between values that compare give the same

pair_alike : (s : Sides) (h h' : Hull) (b : Bool) → (b ≡ true → seen_hull s h' ≡ seen_hull s h) → seen_hull s (cond b h' none) ≡ seen_hull s (cond b h none)
pair_alike s h h' true same = same refl
pair_alike s h h' false same = refl

total_alike : (s : Sides) (test : ℕ → Bool) (f g : ℕ → Hull) (n : ℕ) → ((i : ℕ) → i < n → test i ≡ true → seen_hull s (g i) ≡ seen_hull s (f i)) →
    seen_hull s (hull_total n (λ i. cond (test i) (g i) none)) ≡ seen_hull s (hull_total n (λ i. cond (test i) (f i) none))
total_alike s test f g n same =
    seen_total s n (λ i. cond (test i) (g i) none)
    ∙ total_same n (λ i. seen_hull s (cond (test i) (g i) none)) (λ i. seen_hull s (cond (test i) (f i) none))
    (λ i lt. pair_alike s (f i) (g i) (test i) (same i lt))
    ∙ sym (seen_total s n (λ i. cond (test i) (f i) none))

gives_alike : (s : Sides) (m m' : Move) (l : Letter) (twin : Bool) (n : ℕ) (v : ℕ → ℤ) (h : ℕ → Hull) (w : ℤ) →
    ((i : ℕ) → i < n → compares l twin (v i) w ≡ true → seen_hull s (after_move m' (h i) (v i) w) ≡ seen_hull s (after_move m (h i) (v i) w)) →
    seen_hull s (gives m' l twin n v h w) ≡ seen_hull s (gives m l twin n v h w)
unfolding gives
gives_alike s m m' l twin n v h w same =
    total_alike s (λ i. compares l twin (v i) w) (λ i. after_move m (h i) (v i) w) (λ i. after_move m' (h i) (v i) w) n same

turned_alike : (s : Sides) (m m' : Move) (l : Letter) (twin : Bool) (n : ℕ) (v : ℕ → ℤ) (h : ℕ → Hull) (w : ℤ) →
    ((i : ℕ) → i < n → compares l twin (v i) w ≡ true → seen_hull s (after_move m' (h i) (v i) (neg_ℤ w)) ≡ seen_hull s (after_move m (h i) (v i) w)) →
    seen_hull s (gives_turned m' l twin n v h w) ≡ seen_hull s (gives m l twin n v h w)
unfolding gives gives_turned
turned_alike s m m' l twin n v h w same =
    total_alike s (λ i. compares l twin (v i) w) (λ i. after_move m (h i) (v i) w) (λ i. after_move m' (h i) (v i) (neg_ℤ w)) n same

-- the expressions of an emission, with another one of R
abbrev pub emission_with : Bool → Bool → Formula → EachOf Formula
emission_with wide greatest r = each (Leaf AtomC) (Leaf (held_atom wide)) (Leaf (start_atom (pair_op greatest))) (Leaf (open_atom wide)) r

narrow_for : (s : Sides) (f : Formula) → is_narrow f ≡ true → IsFor s f
narrow_for BothEnds f h = tt
narrow_for UpperEnds f h = h
narrow_for LowerEnds f h = h

start_for : (s : Sides) (greatest : Bool) → IsFor s (Leaf (start_atom (pair_op greatest)))
start_for s true = narrow_for s (Leaf LowAtom) refl
start_for s false = narrow_for s (Leaf HighAtom) refl

found_for : (s : Sides) (o : Op) (l : Letter) (greatest : Bool) → IsFor s (Join (Fold o) (Leaf AtomR) (Leaf (found_atom l greatest)))
found_for s o Less true = narrow_for s (Join (Fold o) (Leaf AtomR) (Leaf Next)) refl
found_for s o Less false = narrow_for s (Join (Fold o) (Leaf AtomR) (Leaf This)) refl
found_for s o Equal greatest = narrow_for s (Join (Fold o) (Leaf AtomR) (Leaf This)) refl
found_for s o Greater true = narrow_for s (Join (Fold o) (Leaf AtomR) (Leaf This)) refl
found_for s o Greater false = narrow_for s (Join (Fold o) (Leaf AtomR) (Leaf Next)) refl

emission_rests : (wide greatest : Bool) (r : Formula) → rests is_zero wide (emission_with wide greatest r) ≡ true
emission_rests true greatest r = refl
emission_rests false greatest r = refl

module _ (s : Sides) (n : ℕ) (alone : (s ≡ BothEnds) ⊎ (is_wide n ≡ false)) (big : 6 ≤ n) (wide greatest : Bool) (width : is_wide n ≡ wide) where
  abbrev made_lanes : List ℤ → ℤ → ℤ → Ends → List ℤ
  made_lanes xs x y e =
      with_all n xs (all_kept s (of_name (each (tree_value (Leaf AtomC) (as_read s xs) x y)
      (beside (is_wide n) (tree_value (Leaf (held_atom wide)) (as_read s xs) x y)) (tree_value (Leaf (start_atom (pair_op greatest))) (as_read s xs) x y)
      (beside (is_wide n) (tree_value (Leaf (open_atom wide)) (as_read s xs) x y)) e)))

  made_by : (m : Move) (r : Formula) (xs : List ℤ) (x y : ℤ) (e : Ends) → m.to ≡ emission_with wide greatest r → IsFor s r → IsPacked n xs →
      some_lanes xs ≡ true → IsSmall x → IsSmall y → kept_ends s e ≡ kept_ends s (tree_value r (as_read s xs) x y) →
      unpacked (made_lanes xs x y e) ≡ seen_hull s (after_move m (unpacked xs) x y)
  made_by m r xs x y e made suits p some sx sy is =
      let zs = as_read s xs in
      (moved_some s m n xs (made_lanes xs x y e) x y (tree_value (Leaf AtomC) zs x y) (beside (is_wide n) (tree_value (Leaf (held_atom wide)) zs x y))
      (tree_value (Leaf (start_atom (pair_op greatest))) zs x y) (beside (is_wide n) (tree_value (Leaf (open_atom wide)) zs x y)) e alone big
      (ap (λ b. rests is_zero b m.to) width ∙ ap (rests is_zero wide) made ∙ emission_rests wide greatest r)
      (subst (λ t. AllByRecursion (IsFor s) (in_order false t)) (sym made) (narrow_for s (Leaf AtomC) refl, (start_for s greatest, (suits, tt)))) p some sx sy
      (ap (λ t. kept_ends s (tree_value t.c zs x y)) (sym made)) (ap (λ t. kept_ends s (beside (is_wide n) (tree_value t.e zs x y))) (sym made))
      (ap (λ t. kept_ends s (tree_value t.d zs x y)) (sym made)) (ap (λ t. kept_ends s (beside (is_wide n) (tree_value t.f zs x y))) (sym made))
      (is ∙ ap (λ t. kept_ends s (tree_value t.r zs x y)) (sym made)) refl).1

  alike : (m m' : Move) (r r' : Formula) (xs : List ℤ) (x y : ℤ) → m.to ≡ emission_with wide greatest r → m'.to ≡ emission_with wide greatest r' → IsFor s r →
      IsFor s r' → IsPacked n xs → IsSmall x → IsSmall y →
      (some_lanes xs ≡ true → kept_ends s (tree_value r' (as_read s xs) x y) ≡ kept_ends s (tree_value r (as_read s xs) x y)) →
      seen_hull s (after_move m' (unpacked xs) x y) ≡ seen_hull s (after_move m (unpacked xs) x y)
  alike m m' r r' xs x y made made' suits suits' p sx sy same = go (some_lanes xs) refl
    where
      go : (b : Bool) → some_lanes xs ≡ b → seen_hull s (after_move m' (unpacked xs) x y) ≡ seen_hull s (after_move m (unpacked xs) x y)
      go true is =
          let e = tree_value r' (as_read s xs) x y in
          sym (made_by m' r' xs x y e made' suits' p is sx sy refl) ∙ made_by m r xs x y e made suits p is sx sy (same is)
      go false is = sym (moved_nothing s m' n xs x y big p is) ∙ moved_nothing s m n xs x y big p is

  module _ {X : Type 0} (lanes : X → List ℤ) (nothing : X) (m m' : Move) (r r' : Formula) (made : m.to ≡ emission_with wide greatest r)
      (made' : m'.to ≡ emission_with wide greatest r') (suits : IsFor s r) (suits' : IsFor s r') (l : Letter) (twin : Bool) (count : ℕ) (v : ℕ → ℤ)
      (before : List X) (packed : ArePacked lanes nothing n count before) (sv : (i : ℕ) → i < count → IsSmall (v i)) (k : ℕ) (w : ℕ → ℤ)
      (sw : (j : ℕ) → j < k → IsSmall (w j)) (old new : List X)
      (same : (i j : ℕ) → i < count → j < k → some_lanes (lanes (get_or before i nothing)) ≡ true → compares l twin (v i) (w j) ≡ true →
      kept_ends s (tree_value r' (as_read s (lanes (get_or before i nothing))) (v i) (w j))
      ≡ kept_ends s (tree_value r (as_read s (lanes (get_or before i nothing))) (v i) (w j))) where
    moved_alike : IsMoved s lanes nothing m' l twin count v before k w old new → IsMoved s lanes nothing m l twin count v before k w old new
    moved_alike moved j lt =
        moved j lt
        ∙ ap (hull_of_both (hull_at lanes nothing old j)) (gives_alike s m m' l twin count v (hull_at lanes nothing before) (w j)
        (λ i inside is. alike m m' r r' (lanes (get_or before i nothing)) (v i) (w j) made made' suits suits' (packed.1 i inside) (sv i inside) (sw j lt)
        (λ some. same i j inside lt some is)))

-- R, joined with what is found, and with the cell that is found
abbrev pub found_joined : Op → Bool → Bool → Formula
found_joined o wide greatest = Join (Fold o) (Leaf AtomR) (pair_found wide (pair_op greatest))

abbrev pub cell_formula : Op → Letter → Bool → Formula
cell_formula o l greatest = Join (Fold o) (Leaf AtomR) (Leaf (found_atom l greatest))

module _ {X : Type 0} (s : Sides) (lanes : X → List ℤ) (nothing : X) (n : ℕ) (alone : (s ≡ BothEnds) ⊎ (is_wide n ≡ false)) (big : 6 ≤ n) (by : Emission)
    (greatest : Bool) (o : Op) (cells : by.cells ≡ pair_op greatest) (ranges : by.ranges ≡ o)
    (made : (move_of by.turn.now).to ≡ emission (is_wide n) by.ranges by.cells) (suits : IsMoveFor s (move_of by.turn.now))
    (l : Letter) (twin : Bool) (count : ℕ) (v : ℕ → ℤ) (before : List X) (packed : ArePacked lanes nothing n count before)
    (sv : (i : ℕ) → i < count → IsSmall (v i))
    (fit : (i : ℕ) → i < count → some_lanes (lanes (get_or before i nothing)) ≡ true →
    IsEmitted s (is_wide n) by (as_read s (lanes (get_or before i nothing)))) (k : ℕ) (w : ℕ → ℤ) (sw : (j : ℕ) → j < k → IsSmall (w j))
    (old new : List X) where
  abbrev pub m : Move
  m = move_of by.turn.now

  joins_found : (wide : Bool) → is_wide n ≡ wide → m.to ≡ emission_with wide greatest (found_joined o wide greatest)
  joins_found wide width = made ∙ ap (λ p. emission (is_wide n) p by.cells) ranges ∙ ap (λ b. emission b o by.cells) width
      ∙ ap (emission wide o) cells

  begun_by : (wide : Bool) → is_wide n ≡ wide → (xs : List ℤ) → IsBegun s (is_wide n) by.cells xs → IsBegun s wide (pair_op greatest) xs
  begun_by wide width xs h = subst (λ b. IsBegun s b (pair_op greatest) xs) width (subst (λ o. IsBegun s (is_wide n) o xs) cells h)

  suits_found : (wide : Bool) → is_wide n ≡ wide → IsFor s (found_joined o wide greatest)
  suits_found wide width = subst (λ t. IsFor s t.r) (joins_found wide width) suits.1.1.0

  -- in narrow hulls R is joined with the cell that is found
  pub cell_taken : is_wide n ≡ false → IsMoved s lanes nothing (record { next = 0; to = emission_with false greatest (cell_formula o l greatest) })
      l twin count v before k w old new → IsMoved s lanes nothing m l twin count v before k w old new
  cell_taken width =
      moved_alike s n alone big false greatest width lanes nothing m
      (record { next = 0; to = emission_with false greatest (cell_formula o l greatest) }) (found_joined o false greatest) (cell_formula o l greatest)
      (joins_found false width) refl (suits_found false width) (found_for s o l greatest) l twin count v before packed sv k w sw old new
      (λ i j inside lt some is. cell_joined s o l twin greatest (as_read s (lanes (get_or before i nothing))) (v i) (w j)
      (begun_by false width (as_read s (lanes (get_or before i nothing))) (fit i inside some).begun) (sv i inside) (sw j lt) is)

  -- in wide ones, on `<`, the next cell, and the cell is taken away
  pub rise_taken : o ≡ Add → is_wide n ≡ true → greatest ≡ true → l ≡ Less →
      IsMoved s lanes nothing (record { next = 0; to = emission_with true greatest rise_added }) l twin count v before k w old new →
      IsMoved s lanes nothing m l twin count v before k w old new
  rise_taken adds width one less =
      let both = narrow_or_both s (is_wide n) alone width in
      moved_alike s n alone big true greatest width lanes nothing m (record { next = 0; to = emission_with true greatest rise_added })
      (found_joined Add true greatest) rise_added (joins_found true width ∙ ap (λ p. emission_with true greatest (found_joined p true greatest)) adds) refl
      (subst (λ p. IsFor s (found_joined p true greatest)) adds (suits_found true width))
      (subst (λ z. IsFor z rise_added) (sym both) tt) l twin count v before packed sv k w sw old new
      (λ i j inside lt some is.
      let xs = as_read s (lanes (get_or before i nothing)) in
      let by_one = fit i inside some in
      let begun : IsBegun BothEnds true Max xs =
      subst (λ z. IsBegun z true Max xs) both (subst (λ g. IsBegun s true (pair_op g) xs) one (begun_by true width xs by_one.begun)) in
      ap (kept_ends s) (rise_is xs (v i) (w j) begun (by_one.small (ranges ∙ adds)) (sv i inside) (sw j lt)
      (below_next twin (v i) (w j) (sv i inside) (subst (λ z. compares z twin (v i) (w j) ≡ true) less is))
      ∙ ap (λ g. tree_value (found_joined Add true g) xs (v i) (w j)) (sym one)))

  -- and on `>` the cell, and the next one is taken away
  pub fall_taken : o ≡ Add → is_wide n ≡ true → greatest ≡ true → l ≡ Greater →
      IsTurned s lanes nothing (record { next = 0; to = emission_with true true fall_added }) l twin count v before k w old new →
      IsMoved s lanes nothing m l twin count v before k w old new
  fall_taken adds width one greater moved j lt =
      let both = narrow_or_both s (is_wide n) alone width in
      let m' : Move = record { next = 0; to = emission_with true true fall_added } in
      let found : m.to ≡ emission_with true true (found_joined Add true true) =
      joins_found true width ∙ ap (λ p. emission_with true greatest (found_joined p true greatest)) adds
      ∙ ap (λ g. emission_with true g (found_joined Add true g)) one in
      let any : (r : Formula) → IsFor s r = λ r. subst (λ z. IsFor z r) (sym both) tt in
      moved j lt
      ∙ ap (hull_of_both (hull_at lanes nothing old j)) (turned_alike s m m' l twin count v (hull_at lanes nothing before) (w j)
      (λ i inside is.
      let xs = lanes (get_or before i nothing) in
      let zs = as_read s xs in
      let y = neg_ℤ (w j) in
      let go : (b : Bool) → some_lanes xs ≡ b → seen_hull s (after_move m' (unpacked xs) (v i) y) ≡ seen_hull s (after_move m (unpacked xs) (v i) (w j)) =
      (λ b. elim b as (λ b. some_lanes xs ≡ b → seen_hull s (after_move m' (unpacked xs) (v i) y) ≡ seen_hull s (after_move m (unpacked xs) (v i) (w j))) [
        | true ↦ λ some.
            let e = tree_value fall_added zs (v i) y in
            let by_one = fit i inside some in
            let begun : IsBegun BothEnds true Max zs =
            subst (λ z. IsBegun z true Max zs) both (subst (λ g. IsBegun s true (pair_op g) zs) one (begun_by true width zs by_one.begun)) in
            sym (made_by s n alone big true true width m' fall_added xs (v i) y e refl (any fall_added) (packed.1 i inside) some (sv i inside)
            (turned_small (w j) (sw j lt)) refl)
            ∙ made_by s n alone big true true width m (found_joined Add true true) xs (v i) (w j) e found (any (found_joined Add true true))
            (packed.1 i inside) some (sv i inside) (sw j lt)
            (ap (kept_ends s) (fall_is zs (v i) (w j) begun (by_one.small (ranges ∙ adds)) (sv i inside) (sw j lt)
            (above_next twin (v i) (w j) (sv i inside) (subst (λ z. compares z twin (v i) (w j) ≡ true) greater is))))
        | false ↦ λ some. sym (moved_nothing s m' n xs (v i) y big (packed.1 i inside) some)
            ∙ moved_nothing s m n xs (v i) (w j) big (packed.1 i inside) some
      ]) in
      go (some_lanes xs) refl))
