-- The cover of a column bounds each of its hulls.
use Rattle.std.proofs.Common.{◌≡◌, ℕ, zero, suc, ◌+◌, ◌*◌, ◌<◌, ◌≤◌, ◌≤ℤ◌, ◌<ℤ◌, true, ℤ, pos, neg_ℤ, Option, None, Some, List, [], ◌∷◌, length, get_or, map, refl, sym, ap, subst, ◌∙◌, arith}
use Rattle.std.proofs.lemmas.Int.{ints}
use Rattle.std.proofs.lemmas.List.{length-replicate}
use Rattle.ts_sweep.specs.declared.cover.Cover.{Cover}
use Rattle.ts_sweep.specs.declared.packed.Name.{Name}
use Rattle.ts_sweep.specs.declared.packed.PackedHull.{PackedHull}
use Rattle.ts_sweep.specs.Covers.{turned, turned_hull, bound_ends, cover_ends, join_of, nothing_of, join_of_all, IsBounded}
use Rattle.ts_sweep.specs.Fronts.{ArePlain}
use Rattle.ts_sweep.specs.FrontLaws.{plain_at}
use Rattle.ts_sweep.specs.Lanes.{least, some_lanes}
use Rattle.ts_sweep.specs.LaneLaws.{cons_same, lanes_associative, lanes_commutative, lanes_idempotent}
use Rattle.ts_sweep.specs.MoveLaws.{not_nothing}
use Rattle.ts_sweep.specs.Packed.{ends, ends_in, place, AreSome, AreWithin, IsPacked, IsPlace, IsUnder}
use Rattle.ts_sweep.specs.PackedLaws.{placed, covered_is_under, length_greater}
use Rattle.ts_sweep.specs.Sides.{Sides, BothEnds, UpperEnds, LowerEnds, sides, lanes_by, count_by, lane_count, lanes_in, as_read}
use Rattle.ts_sweep.specs.SidesLaws.{ones_are, packed_are, read_length, upper_read, lower_read, upper_get, lower_get}
use Rattle.ts_sweep.specs.Sweeps.{total}
use Rattle.ts_sweep.proofs.CoverSteps.{covered}

-- each lane negated

abbrev pub AreTurned : ℕ → List ℤ → List ℤ → Type 0
AreTurned n xs zs = (k : ℕ) → k < n → get_or zs k (pos 0) ≡ turned (get_or xs k (pos 0))

pub turned_is : (n : ℕ) (xs zs : List ℤ) → length xs ≡ n → length zs ≡ n → AreTurned n xs zs → zs ≡ map turned xs
turned_is n [] [] a b h = refl
turned_is n [] (z ∷ zs) a b h = absurd (omega (arith, a, b))
turned_is n (x ∷ xs) [] a b h = absurd (omega (arith, a, b))
turned_is n (x ∷ xs) (z ∷ zs) a b h =
    let same : length zs ≡ length xs = omega (arith, a, b) in
    let rest : AreTurned (length xs) xs zs = λ k lt. h (suc k) (omega (arith, a, lt)) in
    cons_same _ _ _ _ (h 0 (omega (arith, a))) (turned_is (length xs) xs zs refl same rest)

turned_length : (xs : List ℤ) → length (map turned xs) ≡ length xs
turned_length [] = refl
turned_length (x ∷ xs) = ap suc (turned_length xs)

turned_get : (xs : List ℤ) (k : ℕ) → k < length xs → get_or (map turned xs) k (pos 0) ≡ turned (get_or xs k (pos 0))
turned_get [] k lt = absurd (omega (arith, lt))
turned_get (x ∷ xs) zero lt = refl
turned_get (x ∷ xs) (suc k) lt = turned_get xs k (omega (arith, lt))

turned_some : (x : ℤ) → least <ℤ x → turned x ≡ neg_ℤ x
turned_some x h = grind (arith, ints)

-- a lane that is bounded from both sides

at_most : (x y z : ℤ) → x ≡ y → x ≤ℤ z → y ≤ℤ z
at_most x y z e h = omega (arith, ints, e, h)

no_size : AreWithin 1 (ends (pos 0) (pos 0))
no_size = ((grind (arith, ints), grind (arith, ints)), (grind (arith, ints), grind (arith, ints)))

upper_sized : (x y z : ℤ) → x ≤ℤ y → neg_ℤ x ≤ℤ z → y ≤ℤ pos 10000000000000000 → z ≤ℤ pos 10000000000000000 →
    AreWithin 1 (ends (pos 0) x)
upper_sized x y z a b c d = (no_size.0, (omega (arith, ints, b, d), omega (arith, ints, a, c)))

lower_sized : (x y z : ℤ) → x ≤ℤ y → neg_ℤ x ≤ℤ z → y ≤ℤ pos 10000000000000000 → z ≤ℤ pos 10000000000000000 →
    AreWithin 1 (ends x (pos 0))
lower_sized x y z a b c d = ((omega (arith, ints, b, d), omega (arith, ints, a, c)), no_size.0)

turned_under : (xs zs : List ℤ) (p : ℕ) → p < length xs → least <ℤ get_or xs p (pos 0) → IsUnder (map turned xs) zs →
    neg_ℤ (get_or xs p (pos 0)) ≤ℤ get_or zs p (pos 0)
turned_under xs zs p lt some under =
    at_most _ _ _ (turned_get xs p lt ∙ turned_some (get_or xs p (pos 0)) some) (under p)

pub sized_at : (s : Sides) (n : ℕ) (xs ys zs : List ℤ) (o : Option ℕ) → IsPlace (count_by s n) o → length xs ≡ n → length ys ≡ n →
    length zs ≡ n → AreSome (count_by s n) (lanes_by s xs) → IsUnder xs ys →
    ((s ≡ BothEnds → ⊥) → IsUnder (map turned xs) zs) →
    ArePlain (bound_ends s (ends_in (as_read s (lanes_by s ys)) o) (ends_in (as_read s (lanes_by s zs)) o)) →
    AreWithin 1 (ends_in (as_read s (lanes_by s xs)) o)
sized_at BothEnds n xs ys zs o lt a b c some under other plain = plain_at n o ys xs lt some under plain
sized_at UpperEnds n xs ys zs None lt a b c some under other plain = no_size
sized_at UpperEnds n xs ys zs (Some p) lt a b c some under other plain =
    let inside : p < n = omega (arith, lt) in
    let x = get_or xs p (pos 0) in
    let there : least <ℤ x = subst (λ z. least <ℤ z) (upper_get xs p) (some.above (2 * p + 1) lt) in
    let bound = subst (λ e. ArePlain (ends e.above (ends_in (as_read UpperEnds (lanes_by UpperEnds ys)) (Some p)).above))
    (upper_read zs p (omega (arith, inside, c))) plain in
    let bounds = subst (λ e. ArePlain (ends (get_or zs p (pos 0)) e.above)) (upper_read ys p (omega (arith, inside, b))) bound in
    subst (AreWithin 1) (sym (upper_read xs p (omega (arith, inside, a))))
    (upper_sized x (get_or ys p (pos 0)) (get_or zs p (pos 0)) (under p)
    (turned_under xs zs p (omega (arith, inside, a)) there (other (λ e. cc))) bounds.1 bounds.0)
sized_at LowerEnds n xs ys zs None lt a b c some under other plain = no_size
sized_at LowerEnds n xs ys zs (Some p) lt a b c some under other plain =
    let inside : p < n = omega (arith, lt) in
    let x = get_or xs p (pos 0) in
    let there : least <ℤ x = subst (λ z. least <ℤ z) (lower_get xs p) (some.above (2 * p) (omega (arith, lt))) in
    let bound = subst (λ e. ArePlain (ends (ends_in (as_read LowerEnds (lanes_by LowerEnds ys)) (Some p)).below e.below))
    (lower_read zs p (omega (arith, inside, c))) plain in
    let bounds = subst (λ e. ArePlain (ends e.below (get_or zs p (pos 0)))) (lower_read ys p (omega (arith, inside, b))) bound in
    subst (AreWithin 1) (sym (lower_read xs p (omega (arith, inside, a))))
    (lower_sized x (get_or ys p (pos 0)) (get_or zs p (pos 0)) (under p)
    (turned_under xs zs p (omega (arith, inside, a)) there (other (λ e. cc))) bounds.0 bounds.1)

-- the joins of all hulls have as many lanes

abbrev hull_with : (n : ℕ) → List ℤ → PackedHull n
hull_with n xs = record { at = xs }

total_long : (n : ℕ) (f : ℕ → PackedHull n) (m : ℕ) → ((i : ℕ) → i < m → length (f i).at ≡ n) → length (join_of_all n f m).at ≡ n
unfolding total
total_long n f zero h = length-replicate n least
total_long n f (suc m) h =
    let rest = total_long n f m (λ i lt. h i (omega (arith, lt))) in
    length_greater (join_of_all n f m).at (f m).at (rest ∙ sym (h m (omega arith))) ∙ rest

under_join : (n : ℕ) (f : ℕ → PackedHull n) (m i : ℕ) → ((i : ℕ) → i < m → length (f i).at ≡ n) → i < m →
    IsUnder (f i).at (join_of_all n f m).at
under_join n f m i long lt =
    covered_is_under n (join_of_all n f m).at (f i).at (total_long n f m long) (long i lt)
    (ap (λ (h : PackedHull n). h.at)
    (covered (join_of n) (nothing_of n) (λ a b c. ap (hull_with n) (lanes_associative a.at b.at c.at))
    (λ a b. ap (hull_with n) (lanes_commutative a.at b.at)) (λ a. ap (hull_with n) (lanes_idempotent a.at)) f m i lt))

-- each hull is bounded

pub bounded : (n : ℕ) (f : ℕ → PackedHull n) (count : ℕ) (all other : PackedHull n) (cover : Cover) → 6 ≤ lane_count n →
    all ≡ join_of_all n f count → ((sides n ≡ BothEnds → ⊥) → other ≡ join_of_all n (λ i. turned_hull n (f i)) count) →
    length other.at ≡ n →
    ((k : Name) → cover_ends cover k ≡ bound_ends (sides n) (ends_in (as_read (sides n) (lanes_in n all.at)) (place (lane_count n) k))
    (ends_in (as_read (sides n) (lanes_in n other.at)) (place (lane_count n) k))) →
    ((i : ℕ) → i < count → IsPacked (lane_count n) (lanes_in n (f i).at)) → (i : ℕ) → i < count →
    some_lanes (lanes_in n (f i).at) ≡ true → IsBounded cover (as_read (sides n) (lanes_in n (f i).at))
bounded n f count all other cover big all_is other_is other_long ends_are packed i lt some k plain =
    let s = sides n in
    let xs = (f i).at in
    let long : (i : ℕ) → i < count → length (f i).at ≡ n =
    (λ i lt. (ones_are s n (f i).at (packed_are (count_by s n) (lanes_by s (f i).at) (packed i lt))).0) in
    let is_some = not_nothing (count_by s n) (lanes_by s xs) some (packed i lt) in
    let all_long = ap (λ (h : PackedHull n). length h.at) all_is ∙ total_long n f count long in
    let under : IsUnder xs all.at = subst (λ (h : PackedHull n). IsUnder xs h.at) (sym all_is) (under_join n f count i long lt) in
    let turned_under : (s ≡ BothEnds → ⊥) → IsUnder (map turned xs) other.at = (λ not. subst (λ (h : PackedHull n). IsUnder (map turned xs) h.at)
    (sym (other_is not)) (under_join n (λ i. turned_hull n (f i)) count i (λ i lt. turned_length (f i).at ∙ long i lt) lt)) in
    subst (λ m. AreWithin 1 (ends_in (as_read s (lanes_by s xs)) (place m k))) (sym (read_length s (lanes_by s xs) ∙ is_some.len))
    (sized_at s n xs all.at other.at (place (count_by s n) k) (placed (count_by s n) k big) (long i lt) all_long other_long is_some under
    turned_under (subst ArePlain (ends_are k) plain))
