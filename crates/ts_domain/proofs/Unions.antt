-- The union of ranges: which numbers it has, in the order of the lists and in the order of their low ends.
use Rattle.std.proofs.Common.{◌≡◌, ℕ, zero, suc, ◌+◌, ◌<◌, ◌≤◌, ℤ, pos, neg_ℤ, ◌+ℤ◌, ◌≤ℤ◌, ◌<ℤ◌, ◌⊎◌, inl, inr, ◌↔◌, Bool, true, false, ◌&&◌, ◌||◌, List, [], ◌∷◌, ◌++◌, length, get_or, take, drop, cond, IsTrue, refl, sym, ap, ◌∙◌, subst, arith, IsPermutation, is_lt, int_cmp}
use Rattle.std.proofs.lemmas.Int.{ints}
use Rattle.std.proofs.lemmas.Bool.{or_cases, both_ways, or_left, or_right}
use Rattle.std.proofs.lemmas.List.Sorted.{All-permutation, list_any-IsPermutation, length_permutation}
use Rattle.std.proofs.Math.Seq.{take-append_seam}
use Rattle.std.specs.Ordering.{ordering_then}
use Rattle.std.specs.declared.cmp.Ordering.TheVariants.{Less, Equal, Greater}
use Rattle.std.specs.Prelude.{int_le, int_lt, All}
use Rattle.std.specs.List.{list_any, zip}
use Rattle.ts_domain.specs.declared.interval.Interval.{Interval}
use Rattle.ts_domain.specs.Values.{RangesFrom, WithinLimits}
use Rattle.ts_domain.specs.Union.{InSomeRange, SomeEmpty, InSome, IsUsable, LowsRise, intervals_of}

-- the test that a range has a number
abbrev pub has_number : ℤ → Interval → Bool
has_number v r = int_le r.low v && int_le v r.high

pub any_in_some : (rs : List Interval) (v : ℤ) → list_any (has_number v) rs ≡ true → InSome rs v
unfolding InSome
any_in_some [] v h = cc
any_in_some (r ∷ rs) v h =
    elim (or_cases (has_number v r) (list_any (has_number v) rs) h) [
      | inl here ↦ inl (from_test r v here)
      | inr there ↦ inr (any_in_some rs v there)
    ]
  where
    from_test : (r : Interval) (v : ℤ) → has_number v r ≡ true → (r.low ≤ℤ v) × (v ≤ℤ r.high)
    from_test r v h = (grind (arith, ints), grind (arith, ints))

pub in_some_any : (rs : List Interval) (v : ℤ) → InSome rs v → list_any (has_number v) rs ≡ true
unfolding InSome
in_some_any [] v h = absurd h
in_some_any (r ∷ rs) v h =
    elim h [
      | inl here ↦ or_left (has_number v r) (list_any (has_number v) rs) (to_test r v here.0 here.1)
      | inr there ↦ or_right
          (has_number v r) (list_any (has_number v) rs) (in_some_any rs v there)
    ]
  where
    to_test : (r : Interval) (v : ℤ) → r.low ≤ℤ v → v ≤ℤ r.high → has_number v r ≡ true
    to_test r v from to = grind (arith, ints)

-- in the ranges of two lists
pub in_paired : (lows highs : List ℤ) (v : ℤ) → length lows ≡ length highs → InSome (intervals_of lows highs) v → InSomeRange lows highs v
unfolding InSome
in_paired [] highs v e h = absurd h
in_paired (l ∷ ls) [] v e h = absurd h
in_paired (l ∷ ls) (r ∷ hs) v e h =
    elim h [
      | inl here ↦ (0, omega arith, here.0, here.1)
      | inr there ↦ later l r ls hs v (in_paired ls hs v (omega (arith, e)) there)
    ]
  where
    later : (l r : ℤ) (ls hs : List ℤ) (v : ℤ) → InSomeRange ls hs v → InSomeRange (l ∷ ls) (r ∷ hs) v
    later l r ls hs v h = (suc h.0, omega (arith, h.1), h.2, h.3)

pub paired_has : (lows highs : List ℤ) (v : ℤ) → length lows ≡ length highs → InSomeRange lows highs v → InSome (intervals_of lows highs) v
unfolding InSome
paired_has [] highs v e h = absurd (omega (arith, h.1))
paired_has (l ∷ ls) [] v e h = absurd (omega (arith, e))
paired_has (l ∷ ls) (r ∷ hs) v e h = here_or_later l r ls hs v h.0 h.1 h.2 h.3 (paired_has ls hs v (omega (arith, e)))
  where
    here_or_later : (l r : ℤ) (ls hs : List ℤ) (v : ℤ) (i : ℕ) → i < length (l ∷ ls) → get_or (l ∷ ls) i (pos 0) ≤ℤ v → v ≤ℤ get_or (r ∷ hs) i (pos 0) →
        (InSomeRange ls hs v → InSome (intervals_of ls hs) v) → ((l ≤ℤ v) × (v ≤ℤ r)) ⊎ InSome (intervals_of ls hs) v
    here_or_later l r ls hs v zero below from to rest = inl (from, to)
    here_or_later l r ls hs v (suc i) below from to rest = inr (rest (i, omega (arith, below), from, to))

-- the test that some range is empty
pub any_empty : (lows highs : List ℤ) → list_any (λ p. int_lt p.1 p.0) (zip lows highs) ≡ true → SomeEmpty lows highs
any_empty [] highs h = cc
any_empty (l ∷ ls) [] h = cc
any_empty (l ∷ ls) (r ∷ hs) h =
    elim (or_cases (int_lt r l) (list_any (λ p. int_lt p.1 p.0) (zip ls hs)) h) [
      | inl here ↦ (0, omega arith, grind (arith, ints))
      | inr there ↦ later l r ls hs (any_empty ls hs there)
    ]
  where
    later : (l r : ℤ) (ls hs : List ℤ) → SomeEmpty ls hs → SomeEmpty (l ∷ ls) (r ∷ hs)
    later l r ls hs h = (suc h.0, omega (arith, h.1), h.2)

pub empty_any : (lows highs : List ℤ) → length lows ≡ length highs → SomeEmpty lows highs → list_any (λ p. int_lt p.1 p.0) (zip lows highs) ≡ true
empty_any [] highs e h = absurd (omega (arith, h.1))
empty_any (l ∷ ls) [] e h = absurd (omega (arith, e))
empty_any (l ∷ ls) (r ∷ hs) e h = here_or_later l r ls hs h.0 h.1 h.2 (empty_any ls hs (omega (arith, e)))
  where
    here_or_later : (l r : ℤ) (ls hs : List ℤ) (i : ℕ) → i < length (l ∷ ls) → get_or (r ∷ hs) i (pos 0) <ℤ get_or (l ∷ ls) i (pos 0) →
        (SomeEmpty ls hs → list_any (λ p. int_lt p.1 p.0) (zip ls hs) ≡ true) → (int_lt r l || list_any (λ p. int_lt p.1 p.0) (zip ls hs)) ≡ true
    here_or_later l r ls hs zero below h rest = grind (arith, ints)
    here_or_later l r ls hs (suc i) below h rest = let t = rest (i, omega (arith, below), h) in grind (arith, ints)

pub length-paired : (lows highs : List ℤ) → length lows ≡ length highs → length (intervals_of lows highs) ≡ length lows
length-paired [] highs e = refl
length-paired (l ∷ ls) [] e = absurd (omega (arith, e))
length-paired (l ∷ ls) (r ∷ hs) e = omega (arith, length-paired ls hs (omega (arith, e)))

-- one range of the two lists
pub get_or-paired : (lows highs : List ℤ) (i : ℕ) (d : Interval) → length lows ≡ length highs → i < length lows →
    get_or (intervals_of lows highs) i d ≡ record { low = get_or lows i (pos 0); high = get_or highs i (pos 0) }
get_or-paired [] highs i d e h = absurd (omega (arith, h))
get_or-paired (l ∷ ls) [] i d e h = absurd (omega (arith, e))
get_or-paired (l ∷ ls) (r ∷ hs) zero d e h = refl
get_or-paired (l ∷ ls) (r ∷ hs) (suc i) d e h = get_or-paired ls hs i d (omega (arith, e)) (omega (arith, h))

pub usable_paired : (lows highs : List ℤ) → length lows ≡ length highs → All WithinLimits lows → All WithinLimits highs → (SomeEmpty lows highs → ⊥) →
    All IsUsable (intervals_of lows highs)
usable_paired lows highs e a b full i d below =
    let here : i < length lows = omega (arith, below, length-paired lows highs e) in
    let la = a i (pos 0) here in let hb = b i (pos 0) (omega (arith, here, e)) in
    rw (get_or-paired lows highs i d e here) (la.0, not_below (get_or lows i (pos 0)) (get_or highs i (pos 0)) (λ lt. full (i, here, lt)), hb.1)
  where
    not_below : (l h : ℤ) → (h <ℤ l → ⊥) → l ≤ℤ h
    not_below l h n = grind (arith, ints)

-- there is a range
pub paired_some : (lows highs : List ℤ) → length lows ≡ length highs → ((lows ≡ []) ⊎ SomeEmpty lows highs → ⊥) → 0 < length (intervals_of lows highs)
paired_some [] highs e full = absurd (full (inl refl))
paired_some (l ∷ ls) [] e full = absurd (omega (arith, e))
paired_some (l ∷ ls) (h ∷ hs) e full = omega arith

-- usable ranges whose neighbours rise by their low ends
pub lows_rise : (from : ℤ) (rs : List Interval) → ((d : Interval) → 0 < length rs → from ≤ℤ (get_or rs 0 d).low) →
    ((k : ℕ) (d : Interval) → suc k < length rs → (get_or rs k d).low ≤ℤ (get_or rs (suc k) d).low) → All IsUsable rs → LowsRise from rs
unfolding LowsRise
lows_rise from [] first next usable = tt
lows_rise from (r ∷ rs) first next usable =
    let here = usable 0 r (omega arith) in (
      first r (omega arith),
      here.1,
      here.2,
      lows_rise r.low rs (λ d below. next 0 d (omega (arith, below))) (λ k d below. next (suc k) d (omega (arith, below)))
          (λ k d below. usable (suc k) d (omega (arith, below))),
    )

-- the order of a sort puts the lower low end first
low_first : (r s : Interval) → is_lt (ordering_then (int_cmp s.low r.low) (int_cmp s.high r.high)) ≡ false → r.low ≤ℤ s.low
low_first r s h = by_test (int_lt s.low r.low) refl
  where
    by_test : (b : Bool) → int_lt s.low r.low ≡ b → r.low ≤ℤ s.low
    by_test true e = absurd (both_ways (is_lt (ordering_then (int_cmp s.low r.low) (int_cmp s.high r.high))) h
        (ap (λ b. is_lt (ordering_then (cond b Less (cond (int_lt r.low s.low) Greater Equal)) (int_cmp s.high r.high))) e))
    by_test false e = grind (arith, ints)

-- ranges in the order of a sort
pub sorted_rise : (items given ys : List Interval) → All IsUsable items → given ≡ items → IsPermutation given ys →
    ((k : ℕ) (d : Interval) → 0 ≤ k → k + 1 < length ys → is_lt
    (ordering_then (int_cmp (get_or ys (k + 1) d).low (get_or ys k d).low) (int_cmp (get_or ys (k + 1) d).high (get_or ys k d).high)) ≡ false) →
    LowsRise (neg_ℤ (pos 1000000)) ys
sorted_rise items given ys all is moved sorted =
    let usable : All IsUsable ys = All-permutation IsUsable given ys moved (subst (All IsUsable) (sym is) all) in
    lows_rise (neg_ℤ (pos 1000000)) ys (λ d below. (usable 0 d below).0) (λ k d below. next k d (sorted k d (omega arith) (omega (arith, below)))) usable
  where
    next : (k : ℕ) (d : Interval) → is_lt (ordering_then (int_cmp (get_or ys (k + 1) d).low (get_or ys k d).low)
        (int_cmp (get_or ys (k + 1) d).high (get_or ys k d).high)) ≡ false → (get_or ys k d).low ≤ℤ (get_or ys (suc k) d).low
    next k d h = let s : k + 1 ≡ suc k = omega arith in subst (λ n. (get_or ys k d).low ≤ℤ (get_or ys n d).low) s
        (low_first (get_or ys k d) (get_or ys (k + 1) d) h)

pub sorted_same : (items given ys : List Interval) (v : ℤ) → given ≡ items → IsPermutation given ys → InSome ys v ↔ InSome items v
sorted_same items given ys v is moved =
    let alike : list_any (has_number v) items ≡ list_any (has_number v) ys = ap (list_any (has_number v)) (sym is)
    ∙ list_any-IsPermutation (has_number v) given ys moved in (
      λ h. any_in_some items v (alike ∙ in_some_any ys v h),
      λ h. any_in_some ys v (sym alike ∙ in_some_any items v h),
    )

-- a list that a sort wrote back over the items of a vector
pub written_back : (items ys : List Interval) (n : ℕ) → n ≡ length items → length ys ≡ length items → take n (ys ++ drop (length ys) items) ≡ ys
written_back items ys n size same = ap (λ k. take k (ys ++ drop (length ys) items)) (size ∙ sym same) ∙ take-append_seam ys (drop (length ys) items)

pub length-sorted : (items given ys : List Interval) → given ≡ items → IsPermutation given ys → length ys ≡ length items
length-sorted items given ys is moved = length_permutation given ys moved ∙ ap length is

-- some range is empty, as the test tells it
pub some_empty : (lows highs : List ℤ) (b : Bool) → length lows ≡ length highs → b ≡ list_any (λ p. int_lt p.1 p.0) (zip lows highs) →
    IsTrue b ↔ SomeEmpty lows highs
some_empty lows highs b e test = (λ yes. any_empty lows highs (sym test ∙ yes), λ h. test ∙ empty_any lows highs e h)

pub rises_from : (f g : ℤ) (rs : List Interval) → f ≤ℤ g → LowsRise g rs → LowsRise f rs
unfolding LowsRise
rises_from f g [] h a = tt
rises_from f g (r ∷ rs) h a = (omega (arith, ints, h, a.0), a.1, a.2, a.3)

-- the last of ranges that stand apart
pub last_range : (f : ℤ) (rs : List Interval) (l : Interval) → RangesFrom f (rs ++ l ∷ []) → (f ≤ℤ l.low) × (l.low ≤ℤ l.high) × (l.high ≤ℤ pos 1000000)
unfolding RangesFrom
last_range f [] l a = (a.0, a.1, a.2)
last_range f (r ∷ rs) l a = let later = last_range (r.high +ℤ pos 2) rs l a.3 in (omega (arith, ints, a.0, a.1, later.0), later.1, later.2)

-- the last one grows to a later end
pub last_grown : (f : ℤ) (rs : List Interval) (l m : Interval) → RangesFrom f (rs ++ l ∷ []) → l.low ≡ m.low → m.low ≤ℤ m.high → m.high ≤ℤ pos 1000000 →
    RangesFrom f (rs ++ m ∷ [])
unfolding RangesFrom
last_grown f [] l m a same ordered within = (omega (arith, ints, a.0, same), ordered, within, tt)
last_grown f (r ∷ rs) l m a same ordered within = (a.0, a.1, a.2, last_grown (r.high +ℤ pos 2) rs l m a.3 same ordered within)

-- one more range after a gap
pub one_more_range : (f : ℤ) (rs : List Interval) (l m : Interval) → RangesFrom f (rs ++ l ∷ []) → (l.high +ℤ pos 2) ≤ℤ m.low → m.low ≤ℤ m.high →
    m.high ≤ℤ pos 1000000 → RangesFrom f ((rs ++ l ∷ []) ++ m ∷ [])
unfolding RangesFrom
one_more_range f [] l m a gap ordered within = (a.0, a.1, a.2, (gap, ordered, within, tt))
one_more_range f (r ∷ rs) l m a gap ordered within = (a.0, a.1, a.2, one_more_range (r.high +ℤ pos 2) rs l m a.3 gap ordered within)

pub in_append : (rs ss : List Interval) (v : ℤ) → InSome (rs ++ ss) v → InSome rs v ⊎ InSome ss v
unfolding InSome
in_append [] ss v h = inr h
in_append (r ∷ rs) ss v h =
    elim h [ inl here ↦ inl (inl here) | inr there ↦ elim (in_append rs ss v there) [ inl a ↦ inl (inr a) | inr b ↦ inr b ] ]

pub in_left : (rs ss : List Interval) (v : ℤ) → InSome rs v → InSome (rs ++ ss) v
unfolding InSome
in_left [] ss v h = absurd h
in_left (r ∷ rs) ss v h = elim h [ inl here ↦ inl here | inr there ↦ inr (in_left rs ss v there) ]

pub in_right : (rs ss : List Interval) (v : ℤ) → InSome ss v → InSome (rs ++ ss) v
unfolding InSome
in_right [] ss v h = h
in_right (r ∷ rs) ss v h = inr (in_right rs ss v h)
