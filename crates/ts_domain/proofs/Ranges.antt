-- The numbers of ranges that stand apart: they rise, they are within the limits, and each is in one of the ranges.
use Rattle.std.proofs.Common.{◌≡◌, ℕ, zero, suc, ◌<◌, ℤ, pos, neg_ℤ, ◌+ℤ◌, ◌-ℤ◌, ◌≤ℤ◌, inl, inr, List, [], ◌∷◌, ◌++◌, length, get_or, refl, sym, ap, ◌∙◌, arith, length-append, append_assoc}
use Rattle.std.proofs.lemmas.Int.{ints}
use Rattle.std.proofs.lemmas.List.Elements.{Contains-append_cases, Contains-append_left, Contains-append_right}
use Rattle.std.specs.Prelude.{Contains}
use Rattle.std.specs.List.{AllByRecursion}
use Rattle.ts_domain.specs.declared.interval.Interval.{Interval}
use Rattle.ts_domain.specs.Values.{to_natural, values_between, values_of, IsRising, RangesFrom, AreRanges, IsDomain}
use Rattle.ts_domain.specs.Union.{InSome}
use Rattle.ts_domain.proofs.Sets.{all_append}
use Rattle.ts_domain.proofs.Runs.{natural_is, length-between, in_between, between_has, rising_run, all_run}

pub values-append : (xs ys : List Interval) → values_of (xs ++ ys) ≡ values_of xs ++ values_of ys
unfolding values_of
values-append [] ys = refl
values-append (r ∷ rs) ys = ap (λ l. values_between r.low r.high ++ l) (values-append rs ys)
    ∙ sym (append_assoc (values_between r.low r.high) (values_of rs) (values_of ys))

-- a number is one of the values exactly where some range has it
pub value_in_some : (f : ℤ) (rs : List Interval) (v : ℤ) → RangesFrom f rs → Contains (values_of rs) v → InSome rs v
unfolding RangesFrom values_of InSome
value_in_some f [] v a h = absurd (omega (arith, h.1))
value_in_some f (r ∷ rs) v a h =
    elim (Contains-append_cases (values_between r.low r.high) (values_of rs) v h) [
      | inl here ↦ inl (in_between r.low r.high v (omega (arith, ints, a.1)) here)
      | inr there ↦ inr (value_in_some (r.high +ℤ pos 2) rs v a.3 there)
    ]

pub some_has_value : (rs : List Interval) (v : ℤ) → InSome rs v → Contains (values_of rs) v
unfolding values_of InSome
some_has_value [] v h = absurd h
some_has_value (r ∷ rs) v h =
    elim h [
      | inl here ↦ Contains-append_left (values_between r.low r.high) (values_of rs) v (between_has r.low r.high v here.0 here.1)
      | inr there ↦ Contains-append_right (values_between r.low r.high) (values_of rs) v (some_has_value rs v there)
    ]

all_from : (f g : ℤ) (xs : List ℤ) → f ≤ℤ g → AllByRecursion (λ y. (g ≤ℤ y) × (y ≤ℤ pos 1000000)) xs → AllByRecursion (λ y. (f ≤ℤ y) × (y ≤ℤ pos 1000000)) xs
all_from f g [] h a = tt
all_from f g (x ∷ xs) h a = ((omega (arith, ints, h, a.0.0), a.0.1), all_from f g xs h a.1)

pub values_within : (f : ℤ) (rs : List Interval) → RangesFrom f rs → AllByRecursion (λ y. (f ≤ℤ y) × (y ≤ℤ pos 1000000)) (values_of rs)
unfolding RangesFrom values_of values_between
values_within f [] a = tt
values_within f (r ∷ rs) a =
    let c = natural_is ((r.high +ℤ pos 1) -ℤ r.low) (omega (arith, ints, a.1)) in
    all_append (λ y. (f ≤ℤ y) × (y ≤ℤ pos 1000000)) (values_between r.low r.high) (values_of rs)
    (all_run f r.low (to_natural ((r.high +ℤ pos 1) -ℤ r.low)) (pos 1000000) a.0 (omega (arith, ints, c, a.2)))
    (all_from f (r.high +ℤ pos 2) (values_of rs) (omega (arith, ints, a.0, a.1)) (values_within (r.high +ℤ pos 2) rs a.3))

from_on : (f g : ℤ) (xs : List ℤ) → f ≤ℤ g → AllByRecursion (λ y. (g ≤ℤ y) × (y ≤ℤ pos 1000000)) xs → AllByRecursion (λ y. f ≤ℤ y) xs
from_on f g [] h a = tt
from_on f g (x ∷ xs) h a = (omega (arith, ints, h, a.0.0), from_on f g xs h a.1)

pub values_rise : (f : ℤ) (rs : List Interval) → RangesFrom f rs → IsRising (values_of rs)
unfolding RangesFrom values_of values_between IsRising
values_rise f [] a = tt
values_rise f (r ∷ rs) a =
    let n = to_natural ((r.high +ℤ pos 1) -ℤ r.low) in
    let c = natural_is ((r.high +ℤ pos 1) -ℤ r.low) (omega (arith, ints, a.1)) in
    rising_run r.low n (values_of rs)
    (from_on (r.low +ℤ pos n) (r.high +ℤ pos 2) (values_of rs) (omega (arith, ints, c)) (values_within (r.high +ℤ pos 2) rs a.3))
    (values_rise (r.high +ℤ pos 2) rs a.3)

-- a range has a value
pub some_values : (f : ℤ) (r : Interval) (rs : List Interval) → RangesFrom f (r ∷ rs) → 0 < length (values_of (r ∷ rs))
unfolding RangesFrom values_of
some_values f r rs a =
    let c = length-between r.low r.high (omega (arith, ints, a.1)) in
    omega (arith, ints, c, a.1, length-append (values_between r.low r.high) (values_of rs))

pub ranges_are_domain : (rs : List Interval) → AreRanges rs → IsDomain (values_of rs)
ranges_are_domain [] a = absurd (a.some refl)
ranges_are_domain (r ∷ rs) a = record {
  rising = values_rise (neg_ℤ (pos 1000000)) (r ∷ rs) a.apart;
  some = λ none. let n = ap length none in omega (arith, n, some_values (neg_ℤ (pos 1000000)) r rs a.apart);
  within = values_within (neg_ℤ (pos 1000000)) (r ∷ rs) a.apart;
}

-- so many values there are at most
pub few_values : (f : ℤ) (rs : List Interval) → RangesFrom f rs → f ≤ℤ pos 1000003 → pos (length (values_of rs)) ≤ℤ (pos 1000003 -ℤ f)
unfolding RangesFrom values_of
few_values f [] a h = omega (arith, ints, h)
few_values f (r ∷ rs) a h =
    let c = length-between r.low r.high (omega (arith, ints, a.1)) in
    let rest = few_values (r.high +ℤ pos 2) rs a.3 (omega (arith, ints, a.2)) in
    omega (arith, ints, c, rest, a.0, length-append (values_between r.low r.high) (values_of rs))

-- each of the ranges is within the limits and not empty
pub range_at : (f : ℤ) (rs : List Interval) (i : ℕ) (d : Interval) → RangesFrom f rs → i < length rs →
    (f ≤ℤ (get_or rs i d).low) × ((get_or rs i d).low ≤ℤ (get_or rs i d).high) × ((get_or rs i d).high ≤ℤ pos 1000000)
unfolding RangesFrom
range_at f [] i d a h = absurd (omega (arith, h))
range_at f (r ∷ rs) zero d a h = (a.0, a.1, a.2)
range_at f (r ∷ rs) (suc i) d a h =
    let later = range_at (r.high +ℤ pos 2) rs i d a.3 (omega (arith, h)) in (omega (arith, ints, a.0, a.1, later.0), later.1, later.2)
