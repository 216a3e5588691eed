-- Where a number lies among ranges that stand apart: after those that end below it, in the last one that begins at it or below.
use Rattle.std.proofs.Common.{◌≡◌, ℕ, zero, suc, ◌-◌, ◌<◌, ◌≤◌, ℤ, pos, negsuc, neg_ℤ, ◌+ℤ◌, ◌≤ℤ◌, ◌<ℤ◌, inl, inr, ◌↔◌, Bool, true, false, cond, List, [], ◌∷◌, length, get_or}
use Rattle.std.proofs.Common.{IsTrue, nat_lt, refl, sym, ap, ◌∙◌, subst, arith}
use Rattle.std.proofs.lemmas.Int.{ints, to_z-of_z}
use mir.Val.{SFits, to_z, of_z}
use mir.Syntax.{w64}
use Rattle.std.specs.Prelude.{int_le, int_lt, Contains}
use Rattle.std.specs.Int.{int_max, int_min}
use Rattle.std.specs.List.Sorted.{IsPartitionPoint, IsPartitionedBy}
use Rattle.ts_domain.specs.declared.interval.Interval.{Interval}
use Rattle.ts_domain.specs.Values.{values_of, RangesFrom}
use Rattle.ts_domain.specs.Union.{InSome}
use Rattle.ts_domain.specs.Pieces.{leading_count, IsLastUpTo, IsFirstFrom, SomeUpTo, SomeFrom}
use Rattle.ts_domain.proofs.Ranges.{value_in_some, some_has_value, range_at}
use Rattle.ts_domain.proofs.Sets.{le_true, true_le}

abbrev bottom : ℤ
bottom = neg_ℤ (pos 1000000)

-- a partition point counts those that pass
pub leading_at : (test : Interval → Bool) (rs : List Interval) (n : ℕ) → n ≤ length rs → IsPartitionPoint (λ r. test r ≡ true) (λ r. test r ≡ false) rs n →
    n ≡ leading_count test rs
unfolding leading_count
leading_at test [] n fits at = omega (arith, fits)
leading_at test (r ∷ rs) zero fits at = sym (ap (λ b. cond b (suc (leading_count test rs)) zero) (at.1 0 r (omega arith) (omega arith)))
leading_at test (r ∷ rs) (suc n) fits at =
    let rest = leading_at test rs n (omega (arith, fits)) (
      λ k d from to. at.0 (suc k) d (omega arith) (omega (arith, to)),
      λ k d from to. at.1 (suc k) d (omega (arith, from)) (omega (arith, to)),
    ) in
    ap suc rest ∙ sym (ap (λ b. cond b (suc (leading_count test rs)) zero) (at.0 0 r (omega arith) (omega arith)))

-- the ends of a range are machine numbers
pub small_fits : (z : ℤ) → neg_ℤ (pos 1000000) ≤ℤ z → z ≤ℤ pos 1000000 → SFits w64 z
small_fits (pos n) from to = record { sfits = omega (arith, ints, from, to) }
small_fits (negsuc n) from to = record { sfits = omega (arith, ints, from, to) }

pub small_is : (z : ℤ) → neg_ℤ (pos 1000000) ≤ℤ z → z ≤ℤ pos 1000000 → to_z w64 (of_z w64 z) ≡ z
small_is z from to = to_z-of_z w64 z (small_fits z from to)

pub ends_are : (rs : List Interval) (n : ℕ) (d : Interval) → RangesFrom bottom rs → n < length rs →
    (to_z w64 (of_z w64 (get_or rs n d).low) ≡ (get_or rs n d).low) × (to_z w64 (of_z w64 (get_or rs n d).high) ≡ (get_or rs n d).high)
ends_are rs n d a below =
    let r = range_at bottom rs n d a below in (
      small_is (get_or rs n d).low r.0 (omega (arith, ints, r.1, r.2)),
      small_is (get_or rs n d).high (omega (arith, ints, r.0, r.1)) r.2,
    )

-- both ends rise from range to range
pub ends_rise : (f : ℤ) (rs : List Interval) (i j : ℕ) (d : Interval) → RangesFrom f rs → i ≤ j → j < length rs →
    ((get_or rs i d).low ≤ℤ (get_or rs j d).low) × ((get_or rs i d).high ≤ℤ (get_or rs j d).high)
unfolding RangesFrom
ends_rise f [] i j d a le below = absurd (omega (arith, below))
ends_rise f (r ∷ rs) zero zero d a le below = (omega (arith, ints), omega (arith, ints))
ends_rise f (r ∷ rs) zero (suc j) d a le below =
    let later = range_at (r.high +ℤ pos 2) rs j d a.3 (omega (arith, below)) in (omega (arith, ints, a.1, later.0), omega (arith, ints, later.0, later.1))
ends_rise f (r ∷ rs) (suc i) zero d a le below = absurd (omega (arith, le))
ends_rise f (r ∷ rs) (suc i) (suc j) d a le below = ends_rise (r.high +ℤ pos 2) rs i j d a.3 (omega (arith, le)) (omega (arith, below))

pub lows_parted : (f t : ℤ) (rs : List Interval) → RangesFrom f rs → IsPartitionedBy (λ r. int_le r.low t) rs
lows_parted f t rs a i j d le below up = under (get_or rs i d).low (get_or rs j d).low t (ends_rise f rs i j d a le below).0 up
  where
    under : (x y t : ℤ) → x ≤ℤ y → int_le y t ≡ true → int_le x t ≡ true
    under x y t le up = grind (arith, ints)

pub highs_parted : (f t : ℤ) (rs : List Interval) → RangesFrom f rs → IsPartitionedBy (λ r. int_lt r.high t) rs
highs_parted f t rs a i j d le below up = under (get_or rs i d).high (get_or rs j d).high t (ends_rise f rs i j d a le below).1 up
  where
    under : (x y t : ℤ) → x ≤ℤ y → int_lt y t ≡ true → int_lt x t ≡ true
    under x y t le up = grind (arith, ints)

-- a number of ranges that begin at f or later
pub in_from : (f v : ℤ) (rs : List Interval) → RangesFrom f rs → InSome rs v → f ≤ℤ v
unfolding RangesFrom InSome
in_from f v [] a h = absurd h
in_from f v (r ∷ rs) a h = elim h [
  | inl here ↦ omega (arith, ints, a.0, here.0)
  | inr there ↦ let later = in_from (r.high +ℤ pos 2) v rs a.3 there in
      omega (arith, ints, later, a.0, a.1)
]

-- the place of a number
pub place_has : (f v : ℤ) (rs : List Interval) (d : Interval) → RangesFrom f rs → InSome rs v →
    (leading_count (λ r. int_lt r.high v) rs < length rs) × ((get_or rs (leading_count (λ r. int_lt r.high v) rs) d).low ≤ℤ v)
unfolding RangesFrom InSome leading_count
place_has f v [] d a h = absurd h
place_has f v (r ∷ rs) d a h = by_test (int_lt r.high v) refl (place_has (r.high +ℤ pos 2) v rs d a.3)
  where
    not_in : (x v : ℤ) → int_lt x v ≡ true → v ≤ℤ x → ⊥
    not_in x v e h = grind (arith, ints)

    not_later : (x v : ℤ) → int_lt x v ≡ false → (x +ℤ pos 2) ≤ℤ v → ⊥
    not_later x v e h = grind (arith, ints)

    by_test : (b : Bool) → int_lt r.high v ≡ b →
        (InSome rs v → (leading_count (λ r. int_lt r.high v) rs < length rs) × ((get_or rs (leading_count (λ r. int_lt r.high v) rs) d).low ≤ℤ v)) →
        let n = cond b (suc (leading_count (λ r. int_lt r.high v) rs)) zero in (n < length (r ∷ rs)) × ((get_or (r ∷ rs) n d).low ≤ℤ v)
    by_test true e later = elim h [ inl here ↦ absurd (not_in r.high v e here.1) | inr there ↦ let rest = later there in (omega (arith, rest.0), rest.1) ]
    by_test false e later = elim h [ inl here ↦ (omega arith, here.0) | inr there ↦ absurd (not_later r.high v e (in_from (r.high +ℤ pos 2) v rs a.3 there)) ]

pub has_place : (v : ℤ) (rs : List Interval) (d : Interval) → leading_count (λ r. int_lt r.high v) rs < length rs →
    (get_or rs (leading_count (λ r. int_lt r.high v) rs) d).low ≤ℤ v → InSome rs v
unfolding InSome leading_count
has_place v [] d below low = absurd (omega (arith, below))
has_place v (r ∷ rs) d below low = by_test (int_lt r.high v) refl (has_place v rs d) below low
  where
    reach : (x v : ℤ) → int_lt x v ≡ false → v ≤ℤ x
    reach x v e = grind (arith, ints)

    by_test : (b : Bool) → int_lt r.high v ≡ b →
        (leading_count (λ r. int_lt r.high v) rs < length rs → (get_or rs (leading_count (λ r. int_lt r.high v) rs) d).low ≤ℤ v → InSome rs v) →
        let n = cond b (suc (leading_count (λ r. int_lt r.high v) rs)) zero in n < length (r ∷ rs) → (get_or (r ∷ rs) n d).low ≤ℤ v → InSome (r ∷ rs) v
    by_test true e later below low = inr (later (omega (arith, below)) low)
    by_test false e later below low = inl (low, reach r.high v e)

pub has_is : (v : ℤ) (rs : List Interval) (d : Interval) (n : ℕ) → RangesFrom bottom rs → n ≡ leading_count (λ r. int_lt r.high v) rs →
    ((n < length rs) × ((get_or rs n d).low ≤ℤ v)) ↔ Contains (values_of rs) v
has_is v rs d n a is = (
  λ h. some_has_value rs v (has_place v rs d (subst (λ n. n < length rs) is h.0) (subst (λ n. (get_or rs n d).low ≤ℤ v) is h.1)),
  λ has. let p = place_has bottom v rs d a (value_in_some bottom rs v a has) in
      (subst (λ n. n < length rs) (sym is) p.0, subst (λ n. (get_or rs n d).low ≤ℤ v) (sym is) p.1),
)

-- the greatest number up to t
pub record LastIn (rs : List Interval) (t v : ℤ) : Type 0 where
  pub has : InSome rs v
  pub within : v ≤ℤ t
  pub greatest : (w : ℤ) → InSome rs w → w ≤ℤ t → w ≤ℤ v

none_begun : (f t : ℤ) (rs : List Interval) (w : ℤ) → RangesFrom f rs → leading_count (λ r. int_le r.low t) rs ≡ 0 → InSome rs w → w ≤ℤ t → ⊥
unfolding RangesFrom InSome leading_count
none_begun f t [] w a e h le = h
none_begun f t (r ∷ rs) w a e h le = by_test (int_le r.low t) refl e
  where
    above : (x t : ℤ) → int_le x t ≡ false → t <ℤ x
    above x t e = grind (arith, ints)

    by_test : (b : Bool) → int_le r.low t ≡ b → cond b (suc (leading_count (λ r. int_le r.low t) rs)) zero ≡ 0 → ⊥
    by_test true e none = cc
    by_test false e none = let up = above r.low t e in
        elim h [
          | inl here ↦ omega (arith, ints, up, here.0, le)
          | inr there ↦ let later = in_from (r.high +ℤ pos 2) w rs a.3 there in
              omega (arith, ints, later, up, a.1, le)
        ]

pub last_in : (f t : ℤ) (rs : List Interval) (k : ℕ) (d : Interval) → RangesFrom f rs → leading_count (λ r. int_le r.low t) rs ≡ suc k →
    LastIn rs t (int_min (get_or rs k d).high t)
unfolding RangesFrom InSome leading_count
last_in f t [] k d a e = absurd (omega (arith, e))
last_in f t (r ∷ rs) k d a e = by_test (int_le r.low t) refl e (λ k. last_in (r.high +ℤ pos 2) t rs k d a.3)
  where
    low_min : (x h t : ℤ) → x ≤ℤ h → int_le x t ≡ true → x ≤ℤ int_min h t
    low_min x h t le e = grind (arith, ints)

    at_first : leading_count (λ r. int_le r.low t) rs ≡ 0 → int_le r.low t ≡ true → LastIn (r ∷ rs) t (int_min r.high t)
    at_first none e = record {
      has = inl (low_min r.low r.high t a.1 e, grind (arith, ints));
      within = grind (arith, ints);
      greatest = λ w h le. elim h [
        | inl here ↦ let to = here.1 in
            grind (arith, ints)
        | inr there ↦ absurd (none_begun (r.high +ℤ pos 2) t rs w a.3 none there le)
      ];
    }

    one_later : (v : ℤ) → LastIn rs t v → LastIn (r ∷ rs) t v
    one_later v l = record {
      has = inr l.has;
      within = l.within;
      greatest = λ w h le. elim h [
        | inl here ↦ let up = in_from (r.high +ℤ pos 2) v rs a.3 l.has in
            omega (arith, ints, up, here.1)
        | inr there ↦ l.greatest w there le
      ];
    }

    go : (k : ℕ) → leading_count (λ r. int_le r.low t) rs ≡ k → int_le r.low t ≡ true →
        ((k : ℕ) → leading_count (λ r. int_le r.low t) rs ≡ suc k → LastIn rs t (int_min (get_or rs k d).high t)) →
        LastIn (r ∷ rs) t (int_min (get_or (r ∷ rs) k d).high t)
    go zero is e later = at_first is e
    go (suc k) is e later = one_later (int_min (get_or rs k d).high t) (later k is)

    by_test : (b : Bool) → int_le r.low t ≡ b → cond b (suc (leading_count (λ r. int_le r.low t) rs)) zero ≡ suc k →
        ((k : ℕ) → leading_count (λ r. int_le r.low t) rs ≡ suc k → LastIn rs t (int_min (get_or rs k d).high t)) →
        LastIn (r ∷ rs) t (int_min (get_or (r ∷ rs) k d).high t)
    by_test true e some later = go k (omega (arith, some)) e later
    by_test false e some later = absurd (omega (arith, some))

pub some_begun : (rs : List Interval) (t : ℤ) (n : ℕ) → RangesFrom bottom rs → SomeUpTo (values_of rs) t →
    n ≡ leading_count (λ r. int_le r.low t) rs → n ≡ 0 → ⊥
some_begun rs t n a some is none = none_begun bottom t rs some.0 a (sym is ∙ none) (value_in_some bottom rs some.0 a some.1) some.2

pub begun_some : (rs : List Interval) (t : ℤ) (n : ℕ) → RangesFrom bottom rs → SomeUpTo (values_of rs) t → n ≡ leading_count (λ r. int_le r.low t) rs → 1 ≤ n
begun_some rs t zero a some is = absurd (some_begun rs t zero a some is refl)
begun_some rs t (suc n) a some is = omega arith

pub last_is : (rs : List Interval) (t : ℤ) (n : ℕ) (d : Interval) (v : ℤ) → RangesFrom bottom rs → SomeUpTo (values_of rs) t →
    n ≡ leading_count (λ r. int_le r.low t) rs → n ≤ length rs → SFits w64 t → SFits w64 v →
    v ≡ int_min (to_z w64 (of_z w64 (get_or rs (n - 1) d).high)) (to_z w64 (of_z w64 t)) → IsLastUpTo (values_of rs) t (to_z w64 (of_z w64 v))
last_is rs t zero d v a some is within fits fit e = absurd (some_begun rs t zero a some is refl)
last_is rs t (suc k) d v a some is within fits fit e =
    let same : suc k - 1 ≡ k = omega arith in
    let high = (ends_are rs k d a (omega (arith, within))).1 in
    let v_is : v ≡ int_min (get_or rs k d).high t =
    e ∙ ap (λ k. int_min (to_z w64 (of_z w64 (get_or rs k d).high)) (to_z w64 (of_z w64 t))) same ∙ ap (λ x. int_min x (to_z w64 (of_z w64 t))) high ∙
    ap (int_min (get_or rs k d).high) (to_z-of_z w64 t fits) in
    let l : LastIn rs t v = subst (LastIn rs t) (sym v_is) (last_in bottom t rs k d a (sym is)) in
    subst (IsLastUpTo (values_of rs) t) (sym (to_z-of_z w64 v fit))
    (record { has = some_has_value rs v l.has; within = l.within; greatest = λ w h le. l.greatest w (value_in_some bottom rs w a h) le })

-- the least number from t on
pub record FirstIn (rs : List Interval) (t v : ℤ) : Type 0 where
  pub has : InSome rs v
  pub within : t ≤ℤ v
  pub least_one : (w : ℤ) → InSome rs w → t ≤ℤ w → v ≤ℤ w

pub first_in : (f t : ℤ) (rs : List Interval) (d : Interval) (w : ℤ) → RangesFrom f rs → InSome rs w → t ≤ℤ w →
    (leading_count (λ r. int_lt r.high t) rs < length rs) × FirstIn rs t (int_max (get_or rs (leading_count (λ r. int_lt r.high t) rs) d).low t)
unfolding RangesFrom InSome leading_count
first_in f t [] d w a h le = absurd h
first_in f t (r ∷ rs) d w a h le = by_test (int_lt r.high t) refl (λ there. first_in (r.high +ℤ pos 2) t rs d w a.3 there le)
  where
    beyond : (x t w : ℤ) → int_lt x t ≡ true → w ≤ℤ x → t ≤ℤ w → ⊥
    beyond x t w e to from = grind (arith, ints)

    reach : (x l t : ℤ) → int_lt x t ≡ false → l ≤ℤ x → int_max l t ≤ℤ x
    reach x l t e le = grind (arith, ints)

    by_test : (b : Bool) → int_lt r.high t ≡ b →
        (InSome rs w → (leading_count (λ r. int_lt r.high t) rs < length rs)
        × FirstIn rs t (int_max (get_or rs (leading_count (λ r. int_lt r.high t) rs) d).low t)) →
        let n = cond b (suc (leading_count (λ r. int_lt r.high t) rs)) zero in (n < length (r ∷ rs)) × FirstIn (r ∷ rs) t (int_max (get_or (r ∷ rs) n d).low t)
    by_test true e later =
        elim h [
          | inl here ↦ absurd (beyond r.high t w e here.1 le)
          | inr there ↦ let rest = later there in (
            omega (arith, rest.0),
            record {
              has = inr rest.1.has;
              within = rest.1.within;
              least_one = λ w h le. elim h [ inl here ↦ absurd (beyond r.high t w e here.1 le) | inr there ↦ rest.1.least_one w there le ];
            },
          )
        ]
    by_test false e later = (
      omega arith,
      record {
        has = inl (grind (arith, ints), reach r.high r.low t e a.1);
        within = grind (arith, ints);
        least_one = λ w h le. elim h [
          | inl here ↦ let from = here.0 in grind (arith, ints)
          | inr there ↦ let up = reach r.high r.low t e a.1 in
              let later = in_from (r.high +ℤ pos 2) w rs a.3 there in omega (arith, ints, up, later)
        ];
      },
    )

pub ended_some : (rs : List Interval) (t : ℤ) (n : ℕ) (d : Interval) → RangesFrom bottom rs → SomeFrom (values_of rs) t →
    n ≡ leading_count (λ r. int_lt r.high t) rs → n < length rs
ended_some rs t n d a some is = subst (λ n. n < length rs) (sym is) (first_in bottom t rs d some.0 a (value_in_some bottom rs some.0 a some.1) some.2).0

pub first_is : (rs : List Interval) (t : ℤ) (n : ℕ) (d : Interval) (v : ℤ) → RangesFrom bottom rs → SomeFrom (values_of rs) t →
    n ≡ leading_count (λ r. int_lt r.high t) rs → SFits w64 t → SFits w64 v →
    v ≡ int_max (to_z w64 (of_z w64 (get_or rs n d).low)) (to_z w64 (of_z w64 t)) → IsFirstFrom (values_of rs) t (to_z w64 (of_z w64 v))
first_is rs t n d v a some is fits fit e =
    let f = first_in bottom t rs d some.0 a (value_in_some bottom rs some.0 a some.1) some.2 in
    let low = (ends_are rs n d a (ended_some rs t n d a some is)).0 in
    let v_is : v ≡ int_max (get_or rs n d).low t = e ∙ ap (λ x. int_max x (to_z w64 (of_z w64 t))) low ∙
    ap (int_max (get_or rs n d).low) (to_z-of_z w64 t fits) in
    let l : FirstIn rs t v = subst (FirstIn rs t) (sym (v_is ∙ ap (λ n. int_max (get_or rs n d).low t) is)) f.1 in
    subst (IsFirstFrom (values_of rs) t) (sym (to_z-of_z w64 v fit))
    (record { has = some_has_value rs v l.has; within = l.within; least = λ w h le. l.least_one w (value_in_some bottom rs w a h) le })

-- the test for a number, in machine numbers
pub has_then : (v : ℤ) (rs : List Interval) (d : Interval) (n : ℕ) → RangesFrom bottom rs → n ≡ leading_count (λ r. int_lt r.high v) rs → n < length rs →
    SFits w64 v →
    IsTrue (int_le (to_z w64 (of_z w64 (get_or rs n d).low)) (to_z w64 (of_z w64 v))) ↔ Contains (values_of rs) v
has_then v rs d n a is below fits =
    let h = has_is v rs d n a is in
    let low = (ends_are rs n d a below).0 in
    let same : int_le (to_z w64 (of_z w64 (get_or rs n d).low)) (to_z w64 (of_z w64 v)) ≡ int_le (get_or rs n d).low v = ap
    (λ x. int_le x (to_z w64 (of_z w64 v))) low ∙ ap (int_le (get_or rs n d).low) (to_z-of_z w64 v fits) in
    (λ yes. h.0 (below, true_le (get_or rs n d).low v (sym same ∙ yes)), λ has. same ∙ le_true (get_or rs n d).low v (h.1 has).1)

pub has_else : (v : ℤ) (rs : List Interval) (d : Interval) (n : ℕ) → RangesFrom bottom rs → n ≡ leading_count (λ r. int_lt r.high v) rs → length rs ≤ n →
    IsTrue (nat_lt n (length rs)) ↔ Contains (values_of rs) v
has_else v rs d n a is past = (λ yes. absurd (not_below n (length rs) past yes), λ has. absurd (omega (arith, ((has_is v rs d n a is).1 has).0, past)))
  where
    not_below : (x y : ℕ) → y ≤ x → nat_lt x y ≡ true → ⊥
    not_below x y h e = grind arith

-- the counts, told of a machine number
pub high_count : (t : ℤ) (rs : List Interval) (n : ℕ) → SFits w64 t → n ≡ leading_count (λ r. int_lt r.high (to_z w64 (of_z w64 t))) rs →
    n ≡ leading_count (λ r. int_lt r.high t) rs
high_count t rs n fits e = e ∙ ap (λ t. leading_count (λ r. int_lt r.high t) rs) (to_z-of_z w64 t fits)

pub low_count : (t : ℤ) (rs : List Interval) (n : ℕ) → SFits w64 t → n ≡ leading_count (λ r. int_le r.low (to_z w64 (of_z w64 t))) rs →
    n ≡ leading_count (λ r. int_le r.low t) rs
low_count t rs n fits e = e ∙ ap (λ t. leading_count (λ r. int_le r.low t) rs) (to_z-of_z w64 t fits)
