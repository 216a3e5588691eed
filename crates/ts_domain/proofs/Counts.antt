-- How many numbers lie before each range, where a place lies, and the place of a number.
use Rattle.std.proofs.Common.{◌≡◌, ℕ, zero, suc, ◌+◌, ◌-◌, ◌<◌, ◌≤◌, ℤ, pos, neg_ℤ, ◌+ℤ◌, ◌-ℤ◌, ◌≤ℤ◌, ◌<ℤ◌, Bool, true, false, Some, List, []}
use Rattle.std.proofs.Common.{◌∷◌, ◌++◌, length, take, get_or, drop, cond, refl, sym, ap, ◌∙◌, subst, arith, length-append, append_assoc, slice_get, nat_le, nat_lt}
use Rattle.std.proofs.lemmas.Int.{ints}
use Rattle.std.proofs.lemmas.List.{append-nil, drop_all, get_or_default, length-drop, length-take-le, get_or-take, get_or-drop}
use Rattle.std.proofs.Math.ListN.{get_or-append}
use Rattle.std.specs.Prelude.{filter, int_lt, Contains}
use Rattle.std.specs.List.{AllByRecursion}
use Rattle.std.specs.List.Sorted.{IsPartitionPoint, IsPartitionedBy}
use Rattle.std.proofs.lemmas.Bool.{false_from_ne_true, leb-true, leb-false, ltb-true, ltb-false}
use Rattle.ts_domain.specs.declared.interval.Interval.{Interval}
use Rattle.ts_domain.specs.Counts.{counts_from, HasPlace}
use Rattle.ts_domain.specs.Values.{IsRising, values_between, values_of, RangesFrom}
use Rattle.ts_domain.specs.Pieces.{is_in, values_in, leading_count, IsPiece}
use Rattle.ts_domain.proofs.Runs.{length-between}
use Rattle.ts_domain.proofs.Sets.{filter_none, each_contains, all_weaker}
use Rattle.ts_domain.proofs.CutLaws.{m, ends_small}
use Rattle.ts_domain.proofs.Ranges.{values_rise, value_in_some, range_at}
use Rattle.ts_domain.proofs.Places.{place_has}
use Rattle.ts_domain.proofs.PieceLaws.{in_ends, ends_in}
use Rattle.ts_domain.proofs.PieceReads.{off, at_between, few, get_or-append_right, read_at}

pub length-counts : (n : ℕ) (rs : List Interval) → length (counts_from n rs) ≡ length rs
unfolding counts_from
length-counts n [] = refl
length-counts n (r ∷ rs) = ap suc (length-counts (n + length (values_between r.low r.high)) rs)

-- the count of the next range, and what comes after the last one
pub next_count : (n : ℕ) (rs : List Interval) (k : ℕ) (e : Interval) → suc k < length rs →
    get_or (counts_from n rs) (suc k) 0 ≡ get_or (counts_from n rs) k 0 + length (values_between (get_or rs k e).low (get_or rs k e).high)
unfolding counts_from
next_count n [] k e h = absurd (omega (arith, h))
next_count n (r ∷ []) k e h = absurd (omega (arith, h))
next_count n (r ∷ q ∷ rs) zero e h = refl
next_count n (r ∷ q ∷ rs) (suc k) e h = next_count (n + length (values_between r.low r.high)) (q ∷ rs) k e (omega (arith, h))

pub last_count : (n : ℕ) (rs : List Interval) (k : ℕ) (e : Interval) → suc k ≡ length rs →
    get_or (counts_from n rs) k 0 + length (values_between (get_or rs k e).low (get_or rs k e).high) ≡ n + length (values_of rs)
unfolding counts_from values_of
last_count n [] k e h = absurd (omega (arith, h))
last_count n (r ∷ []) zero e h = omega (arith, length-append (values_between r.low r.high) [])
last_count n (r ∷ []) (suc k) e h = absurd (omega (arith, h))
last_count n (r ∷ q ∷ rs) zero e h = absurd (omega (arith, h))
last_count n (r ∷ q ∷ rs) (suc k) e h =
    let later = last_count (n + length (values_between r.low r.high)) (q ∷ rs) k e (omega (arith, h)) in
    omega (arith, later, length-append (values_between r.low r.high) (values_of (q ∷ rs)))

-- counts never fall
pub counts_above : (n : ℕ) (rs : List Interval) (k : ℕ) → k < length rs → n ≤ get_or (counts_from n rs) k 0
unfolding counts_from
counts_above n [] k h = absurd (omega (arith, h))
counts_above n (r ∷ rs) zero h = omega arith
counts_above n (r ∷ rs) (suc k) h =
    let later = counts_above (n + length (values_between r.low r.high)) rs k (omega (arith, h)) in omega (arith, later)

pub counts_rise : (n : ℕ) (rs : List Interval) (i j : ℕ) → i ≤ j → j < length rs → get_or (counts_from n rs) i 0 ≤ get_or (counts_from n rs) j 0
unfolding counts_from
counts_rise n [] i j le h = absurd (omega (arith, h))
counts_rise n (r ∷ rs) zero zero le h = omega arith
counts_rise n (r ∷ rs) zero (suc j) le h =
    let later = counts_above (n + length (values_between r.low r.high)) rs j (omega (arith, h)) in omega (arith, later)
counts_rise n (r ∷ rs) (suc i) zero le h = absurd (omega (arith, le))
counts_rise n (r ∷ rs) (suc i) (suc j) le h = counts_rise (n + length (values_between r.low r.high)) rs i j (omega (arith, le)) (omega (arith, h))

pub counts_parted : (rs : List Interval) (bs : List ℕ) (i : ℕ) → bs ≡ counts_from 0 rs → IsPartitionedBy (λ b. nat_le b i) bs
counts_parted rs bs i counted j k d le below up =
    let size = ap length counted ∙ length-counts 0 rs in
    under (get_or bs j d) (get_or bs k d) i (rises (omega (arith, below, size))) up
  where
    under : (x y t : ℕ) → x ≤ y → nat_le y t ≡ true → nat_le x t ≡ true
    under x y t le up = grind arith

    rises : k < length rs → get_or bs j d ≤ get_or bs k d
    rises inside =
        let rise = counts_rise 0 rs j k le inside in
        let x = get_or_default bs j d 0 (omega (arith, le, below)) ∙ ap (λ l. get_or l j 0) counted in
        let y = get_or_default bs k d 0 below ∙ ap (λ l. get_or l k 0) counted in omega (arith, rise, x, y)

-- the number at place p of range k, in the whole set
pub at_range : (n : ℕ) (rs : List Interval) (k p : ℕ) (e : Interval) → k < length rs → (get_or rs k e).low ≤ℤ (get_or rs k e).high →
    p < length (values_between (get_or rs k e).low (get_or rs k e).high) →
    (n ≤ get_or (counts_from n rs) k 0) × ((get_or (counts_from n rs) k 0 + p) - n < length (values_of rs)) ×
    (get_or (values_of rs) ((get_or (counts_from n rs) k 0 + p) - n) (pos 0) ≡ (get_or rs k e).low +ℤ pos p)
unfolding counts_from values_of
at_range n [] k p e h o b = absurd (omega (arith, h))
at_range n (r ∷ rs) zero p e h o b =
    let same : (n + p) - n ≡ p = omega arith in (
      omega arith,
      omega (arith, b, length-append (values_between r.low r.high) (values_of rs)),
      ap (λ i. get_or (values_between r.low r.high ++ values_of rs) i (pos 0)) same ∙
          get_or-append (values_between r.low r.high) (values_of rs) (pos 0) p b ∙ at_between r.low r.high p o b,
    )
at_range n (r ∷ rs) (suc k) p e h o b =
    let here = values_between r.low r.high in
    let later = at_range (n + length here) rs k p e (omega (arith, h)) o b in
    let c = get_or (counts_from (n + length here) rs) k 0 in
    let l = later.0 in
    let same : ((c + p) - n) - length here ≡ (c + p) - (n + length here) = omega (arith, l) in (
      omega (arith, l),
      omega (arith, l, later.1, length-append here (values_of rs)),
      get_or-append_right here (values_of rs) ((c + p) - n) (pos 0) (omega (arith, l)) ∙
          ap (λ i. get_or (values_of rs) i (pos 0)) same ∙ later.2,
    )

-- the place of the first range that a test stops at
pub stops : (test : Interval → Bool) (rs : List Interval) (e : Interval) → leading_count test rs < length rs →
    test (get_or rs (leading_count test rs) e) ≡ false
unfolding leading_count
stops test [] e h = absurd (omega (arith, h))
stops test (r ∷ rs) e h = by_test (test r) refl (stops test rs e) h
  where
    by_test : (b : Bool) → test r ≡ b → (leading_count test rs < length rs → test (get_or rs (leading_count test rs) e) ≡ false) →
        let n = cond b (suc (leading_count test rs)) zero in n < length (r ∷ rs) → test (get_or (r ∷ rs) n e) ≡ false
    by_test true is later h = later (omega (arith, h))
    by_test false is later h = is

-- a number beyond an end of a piece is not in it
above_out : (p : Interval) (v : ℤ) → p.high <ℤ v → is_in p v ≡ false
above_out p v h = false_from_ne_true (is_in p v) (λ yes. let e = in_ends p v yes in omega (arith, ints, e.1, h))

below_out : (p : Interval) (v : ℤ) → v <ℤ p.low → is_in p v ≡ false
below_out p v h = false_from_ne_true (is_in p v) (λ yes. let e = in_ends p v yes in omega (arith, ints, e.0, h))

above_first : (x l v : ℤ) → x ≡ l → x <ℤ v → l <ℤ v
above_first x l v e h = omega (arith, ints, e, h)

from_first : (x l v : ℤ) → x ≡ l → x <ℤ v → l ≤ℤ v
from_first x l v e h = omega (arith, ints, e, h)

-- a later number of a rising list
later_above : (x : ℤ) (xs : List ℤ) (k : ℕ) (v : ℤ) → AllByRecursion (λ y. x <ℤ y) xs → k < length xs → get_or xs k (pos 0) ≡ v → x <ℤ v
later_above x xs k v above h at = each_contains (λ y. x <ℤ y) xs v above (k, h, get_or_default xs k v (pos 0) h ∙ at)

-- between two of its numbers a rising list has all that lies between them
front_in : (p : Interval) (xs : List ℤ) (b : ℕ) → IsRising xs → AllByRecursion (λ v. p.low ≤ℤ v) xs → b < length xs → get_or xs b (pos 0) ≡ p.high →
    filter (is_in p) xs ≡ take (suc b) xs
unfolding IsRising
front_in p [] b rise low h at = absurd (omega (arith, h))
front_in p (x ∷ xs) zero rise low h at =
    ap (λ t. cond t (x ∷ filter (is_in p) xs) (filter (is_in p) xs)) (ends_in p x low.0 (omega (arith, ints, at))) ∙
    ap (λ l. x ∷ l) (filter_none (is_in p) xs (λ v has. above_out p v (above_first x p.high v at (each_contains (λ y. x <ℤ y) xs v rise.0 has))))
front_in p (x ∷ xs) (suc b) rise low h at =
    let below = later_above x xs b p.high rise.0 (omega (arith, h)) at in
    ap (λ t. cond t (x ∷ filter (is_in p) xs) (filter (is_in p) xs)) (ends_in p x low.0 (omega (arith, ints, below))) ∙
    ap (λ l. x ∷ l) (front_in p xs b rise.1 low.1 (omega (arith, h)) at)

pub range_in : (p : Interval) (xs : List ℤ) (a b : ℕ) → IsRising xs → a < length xs → b < length xs → get_or xs a (pos 0) ≡ p.low →
    get_or xs b (pos 0) ≡ p.high →
    p.low ≤ℤ p.high → (a ≤ b) × (values_in xs p ≡ take (suc b - a) (drop a xs))
unfolding IsRising values_in
range_in p [] a b rise ha hb low high o = absurd (omega (arith, ha))
range_in p (x ∷ xs) zero b rise ha hb low high o =
    let n : suc b ≡ suc b - 0 = omega arith in (
      omega arith,
      front_in p (x ∷ xs) b rise (omega (arith, ints, low), all_weaker (λ v. x <ℤ v) (λ v. p.low ≤ℤ v) (λ v h. from_first x p.low v low h) xs rise.0) hb high ∙
          ap (λ n. take n (x ∷ xs)) n,
    )
range_in p (x ∷ xs) (suc a) zero rise ha hb low high o =
    let above = later_above x xs a p.low rise.0 (omega (arith, ha)) low in absurd (omega (arith, ints, above, high, o))
range_in p (x ∷ xs) (suc a) (suc b) rise ha hb low high o =
    let above = later_above x xs a p.low rise.0 (omega (arith, ha)) low in
    let later = range_in p xs a b rise.1 (omega (arith, ha)) (omega (arith, hb)) low high o in
    let n : suc b - a ≡ suc (suc b) - suc a = omega arith in (
      omega (arith, later.0),
      ap (λ t. cond t (x ∷ filter (is_in p) xs) (filter (is_in p) xs)) (below_out p x above) ∙ later.1 ∙ ap (λ n. take n (drop a xs)) n,
    )

-- read at a place
read_back : (vs : List ℤ) (k : ℕ) (v : ℤ) → slice_get vs k ≡ Some v → (k < length vs) × (get_or vs k (pos 0) ≡ v)
read_back [] k v h = cc
read_back (x ∷ xs) zero v h = (omega arith, cc)
read_back (x ∷ xs) (suc k) v h = let later = read_back xs k v h in (omega (arith, later.0), later.1)

-- the numbers of a piece, by the places of its ends
pub piece_count : (rs : List Interval) (p : Interval) (a b : ℕ) → RangesFrom (neg_ℤ (pos 1000000)) rs → IsPiece (values_of rs) p →
    slice_get (values_of rs) a ≡ Some (m p.low) → slice_get (values_of rs) b ≡ Some (m p.high) →
    (a ≤ b) × (b ≤ 2000003) × ((b - a) + 1 ≡ length (values_in (values_of rs) p))
piece_count rs p a b apart is low high =
    let e = ends_small rs p apart is in let all = values_of rs in
    let la = read_back all a (m p.low) low in let lb = read_back all b (m p.high) high in
    let r = range_in p all a b (values_rise (neg_ℤ (pos 1000000)) rs apart) la.0 lb.0 (la.1 ∙ e.0) (lb.1 ∙ e.1) is.0 in
    let small = few rs apart in
    let size = ap length r.1 ∙ length-take-le (suc b - a) (drop a all) (omega (arith, length-drop a all, lb.0)) in
    (r.0, omega (arith, small, lb.0), omega (arith, size, r.0))

pub piece_nth : (rs : List Interval) (p : Interval) (a i : ℕ) → RangesFrom (neg_ℤ (pos 1000000)) rs → IsPiece (values_of rs) p →
    i < length (values_in (values_of rs) p) → slice_get (values_of rs) a ≡ Some (m p.low) →
    (a + i < length (values_of rs)) × (a + i ≤ 2000003) ×
    ((v : ℤ) → slice_get (values_of rs) (a + i) ≡ Some v → slice_get (values_in (values_of rs) p) i ≡ Some v)
piece_nth rs p a i apart is below low =
    let e = ends_small rs p apart is in let all = values_of rs in
    let la = read_back all a (m p.low) low in let b = is.2.0 in
    let r = range_in p all a b (values_rise (neg_ℤ (pos 1000000)) rs apart) la.0 is.2.1 (la.1 ∙ e.0)
    (get_or_default all b (pos 0) p.high is.2.1 ∙ is.2.2) is.0 in
    let small = few rs apart in
    let size = ap length r.1 ∙ length-take-le (suc b - a) (drop a all) (omega (arith, length-drop a all, is.2.1)) in (
      omega (arith, size, below, r.0, is.2.1),
      omega (arith, size, below, r.0, is.2.1, small),
      λ v at. read_at (values_in all p) i v below
          (ap (λ l. get_or l i (pos 0)) r.1 ∙ get_or-take (suc b - a) (drop a all) i (pos 0) (omega (arith, size, below)) ∙
          get_or-drop a all i (pos 0) ∙ (read_back all (a + i) v at).1),
    )

-- range k has the number v
pub record HasNumber (rs : List Interval) (bs : List ℕ) (v : ℤ) (e : Interval) (k : ℕ) : Type 0 where
  pub in_ranges : k < length rs
  pub in_counts : k < length bs
  pub small : get_or bs k 0 ≤ 2000003
  pub low : neg_ℤ (pos 1000000) ≤ℤ (get_or rs k e).low
  pub from : (get_or rs k e).low ≤ℤ v
  pub to : v ≤ℤ pos 1000000
  pub place : (p : ℕ) → pos p ≡ v -ℤ (get_or rs k e).low → slice_get (values_of rs) (get_or bs k 0 + p) ≡ Some v

pub found : (rs : List Interval) (bs : List ℕ) (v : ℤ) (k : ℕ) (e : Interval) → RangesFrom (neg_ℤ (pos 1000000)) rs → bs ≡ counts_from 0 rs →
    Contains (values_of rs) v → k ≡ leading_count (λ r. int_lt r.high v) rs → HasNumber rs bs v e k
found rs bs v k e apart counted has at =
    let some = value_in_some (neg_ℤ (pos 1000000)) rs v apart has in
    let here = place_has (neg_ℤ (pos 1000000)) v rs e apart some in
    let below : k < length rs = subst (λ k. k < length rs) (sym at) here.0 in
    let low : (get_or rs k e).low ≤ℤ v = subst (λ k. (get_or rs k e).low ≤ℤ v) (sym at) here.1 in
    let high : v ≤ℤ (get_or rs k e).high = subst (λ k. v ≤ℤ (get_or rs k e).high) (sym at)
    (reach (get_or rs (leading_count (λ r. int_lt r.high v) rs) e).high v (stops (λ r. int_lt r.high v) rs e here.0)) in
    let fits = range_at (neg_ℤ (pos 1000000)) rs k e apart below in
    let size = length-between (get_or rs k e).low (get_or rs k e).high (omega (arith, ints, fits.1)) in
    let count_is : get_or bs k 0 ≡ get_or (counts_from 0 rs) k 0 = ap (λ l. get_or l k 0) counted in
    let counts = ap length counted ∙ length-counts 0 rs in
    let first = at_range 0 rs k 0 e below fits.1 (omega (arith, ints, size, fits.1)) in
    record {
      in_ranges = below;
      in_counts = omega (arith, counts, below);
      small = omega (arith, count_is, first.1, few rs apart);
      low = fits.0;
      from = low;
      to = omega (arith, ints, high, fits.2);
      place = λ p is. (let there = at_range 0 rs k p e below fits.1 (omega (arith, ints, size, is, high)) in
          let place : (get_or (counts_from 0 rs) k 0 + p) - 0 ≡ get_or bs k 0 + p = omega (arith, count_is) in
          let value : (get_or rs k e).low +ℤ pos p ≡ v = omega (arith, ints, is) in
          read_at (values_of rs) (get_or bs k 0 + p) v (subst (λ i. i < length (values_of rs)) place there.1)
          (ap (λ i. get_or (values_of rs) i (pos 0)) (sym place) ∙ there.2 ∙ value));
    }
  where
    reach : (x v : ℤ) → int_lt x v ≡ false → v ≤ℤ x
    reach x v is = grind (arith, ints)

-- the first count is 0
no_start : (rs : List Interval) (i : ℕ) → i < length (values_of rs) → (0 < length (counts_from 0 rs) → nat_le (get_or (counts_from 0 rs) 0 0) i ≡ false) → ⊥
unfolding counts_from values_of
no_start [] i below h = omega (arith, below)
no_start (r ∷ rs) i below h = omega (arith, leb-false 0 i (h (omega arith)))

-- a place before the next count is in the range
ends_behind : (rs : List Interval) (bs : List ℕ) (i k : ℕ) (e : Interval) → bs ≡ counts_from 0 rs → k < length rs → i < length (values_of rs) →
    (suc k < length rs → i < get_or bs (suc k) 0) → i < get_or bs k 0 + length (values_between (get_or rs k e).low (get_or rs k e).high)
ends_behind rs bs i k e counted within below beyond = by_size (nat_lt (suc k) (length rs)) refl
  where
    count_is : get_or bs k 0 ≡ get_or (counts_from 0 rs) k 0
    count_is = ap (λ l. get_or l k 0) counted

    by_size : (b : Bool) → nat_lt (suc k) (length rs) ≡ b → i < get_or bs k 0 + length (values_between (get_or rs k e).low (get_or rs k e).high)
    by_size true is =
        let j = ltb-true (suc k) (length rs) is in
        let up = beyond j in
        let next = ap (λ l. get_or l (suc k) 0) counted ∙ next_count 0 rs k e j in
        omega (arith, up, next, count_is)
    by_size false is =
        let j = ltb-false (suc k) (length rs) is in
        let last = last_count 0 rs k e (omega (arith, j, within)) in
        omega (arith, last, below, count_is)

-- so many counts pass a place
pub passed : (rs : List Interval) (bs : List ℕ) (i n : ℕ) → RangesFrom (neg_ℤ (pos 1000000)) rs → bs ≡ counts_from 0 rs →
    i < length (values_of rs) → n ≤ length bs → IsPartitionPoint (λ b. nat_le b i ≡ true) (λ b. nat_le b i ≡ false) bs n →
    (1 ≤ n) × (n - 1 < length rs) × (n - 1 < length bs) × HasPlace rs bs i (n - 1)
passed rs bs i zero apart counted below fits at =
    absurd (no_start rs i below (subst (λ l. 0 < length l → nat_le (get_or l 0 0) i ≡ false) counted (λ some. at.1 0 0 (omega arith) some)))
passed rs bs i (suc k) apart counted below fits at =
    let same : k ≡ suc k - 1 = omega arith in
    let size = ap length counted ∙ length-counts 0 rs in
    let within : k < length rs = omega (arith, fits, size) in
    let count_is : get_or bs k 0 ≡ get_or (counts_from 0 rs) k 0 = ap (λ l. get_or l k 0) counted in
    let from : get_or bs k 0 ≤ i = leb-true (get_or bs k 0) i (at.0 k 0 (omega arith) (omega arith)) in
    let place : (get_or (counts_from 0 rs) k 0 + (i - get_or bs k 0)) - 0 ≡ i = omega (arith, count_is, from) in (
      omega arith,
      omega (arith, within),
      omega (arith, size, within),
      subst (HasPlace rs bs i) same (record {
        from = from;
        small = omega (arith, below, few rs apart);
        within = λ e. (let shape = range_at (neg_ℤ (pos 1000000)) rs k e apart within in (shape.0, omega (arith, ints, shape.1, shape.2)));
        value = λ e v is. (let shape = range_at (neg_ℤ (pos 1000000)) rs k e apart within in
            let to = ends_behind rs bs i k e counted within below
            (λ j. leb-false (get_or bs (suc k) 0) i (at.1 (suc k) 0 (omega arith) (omega (arith, size, j)))) in
            let there = at_range 0 rs k (i - get_or bs k 0) e within shape.1 (omega (arith, from, to)) in
            read_at (values_of rs) i v below (ap (λ i. get_or (values_of rs) i (pos 0)) (sym place) ∙ there.2 ∙ sym is));
      }),
    )

-- one more range is counted
pub counting_more : (rs : List Interval) (i : ℕ) (d : Interval) (count size : ℕ) (made more : List ℕ) → i < length rs →
    size ≡ length (values_between (get_or rs i d).low (get_or rs i d).high) → made ++ counts_from count (drop i rs) ≡ counts_from 0 rs →
    more ≡ made ++ count ∷ [] → more ++ counts_from (count + size) (drop (i + 1) rs) ≡ counts_from 0 rs
unfolding counts_from
counting_more rs i d count size made more h is inv grown =
    ap (λ l. l ++ counts_from (count + size) (drop (i + 1) rs)) grown ∙ append_assoc made (count ∷ []) (counts_from (count + size) (drop (i + 1) rs)) ∙
    ap (λ s. made ++ (count ∷ counts_from (count + s) (drop (i + 1) rs))) is ∙
    sym (ap (λ l. made ++ counts_from count l) (off rs i d h)) ∙ inv

pub summing_more : (rs : List Interval) (i : ℕ) (d : Interval) (count size : ℕ) → i < length rs →
    size ≡ length (values_between (get_or rs i d).low (get_or rs i d).high) → count + length (values_of (drop i rs)) ≡ length (values_of rs) →
    (count + size) + length (values_of (drop (i + 1) rs)) ≡ length (values_of rs)
unfolding values_of
summing_more rs i d count size h is inv =
    let here = values_between (get_or rs i d).low (get_or rs i d).high in
    let parts = ap (λ l. length (values_of l)) (off rs i d h) in
    omega (arith, parts, is, inv, length-append here (values_of (drop (i + 1) rs)))

pub counted_all : (rs : List Interval) (i count : ℕ) (made : List ℕ) → length rs ≤ i → made ++ counts_from count (drop i rs) ≡ counts_from 0 rs →
    made ≡ counts_from 0 rs
unfolding counts_from
counted_all rs i count made past inv =
    sym (append-nil made) ∙ sym (ap (λ l. made ++ counts_from count l) (drop_all i rs past)) ∙ inv

-- a place among the ranges and counts that the code read is one among those of the set
pub found_given : (rs items : List Interval) (cs bs : List ℕ) (v : ℤ) (k : ℕ) (e : Interval) → items ≡ rs → bs ≡ cs → cs ≡ counts_from 0 rs →
    RangesFrom (neg_ℤ (pos 1000000)) rs → Contains (values_of rs) v → k ≡ leading_count (λ r. int_lt r.high v) items → HasNumber items bs v e k
found_given rs items cs bs v k e same counts counted apart has at =
    found items bs v k e (subst (RangesFrom (neg_ℤ (pos 1000000))) (sym same) apart) (counts ∙ counted ∙ ap (counts_from 0) (sym same))
    (subst (λ l. Contains (values_of l) v) (sym same) has) at

pub place_given : (rs items : List Interval) (cs bs : List ℕ) (v : ℤ) (k p : ℕ) (e : Interval) → items ≡ rs → bs ≡ cs → cs ≡ counts_from 0 rs →
    RangesFrom (neg_ℤ (pos 1000000)) rs → Contains (values_of rs) v → k ≡ leading_count (λ r. int_lt r.high v) items → pos p ≡ v -ℤ (get_or items k e).low →
    slice_get (values_of rs) (get_or bs k 0 + p) ≡ Some v
place_given rs items cs bs v k p e same counts counted apart has at is =
    subst (λ l. slice_get (values_of l) (get_or bs k 0 + p) ≡ Some v) same ((found_given rs items cs bs v k e same counts counted apart has at).place p is)

pub value_given : (rs items : List Interval) (bs : List ℕ) (i k : ℕ) (e : Interval) (v : ℤ) → items ≡ rs → HasPlace items bs i k →
    v ≡ (get_or items k e).low +ℤ pos (i - get_or bs k 0) → slice_get (values_of rs) i ≡ Some v
value_given rs items bs i k e v same here is = subst (λ l. slice_get (values_of l) i ≡ Some v) same (here.value e v is)
