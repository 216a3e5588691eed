-- Sets of numbers as their rising lists, and the ranges that keep them.
use Rattle.std.specs.Prelude.{◌≡◌, ◌≢◌, ℕ, zero, suc, ◌+◌, Some, slice_get}
use Rattle.std.specs.Prelude.{ℤ, pos, negsuc, neg_ℤ, ◌+ℤ◌, ◌-ℤ◌, ◌≤ℤ◌, ◌<ℤ◌, List, [], ◌∷◌, ◌++◌, get_or}
use Rattle.std.specs.List.{AllByRecursion}
use Rattle.ts_base.specs.Limits.{greatest_value, IsCellValue}
use Rattle.ts_domain.specs.declared.interval.Interval.{Interval}

-- a number of a domain or of a series
abbrev pub WithinLimits : ℤ → Type 0
WithinLimits v = IsCellValue v

-- each number is below the later ones
unfoldable pub IsRising : List ℤ → Type 0
IsRising [] = Unit {0}
IsRising (x ∷ xs) = AllByRecursion (λ y. x <ℤ y) xs × IsRising xs

-- a non-empty set of numbers within the limits, as its rising list
pub record IsDomain (values : List ℤ) : Type 0 where
  pub rising : IsRising values
  pub some : values ≢ []
  pub within : AllByRecursion WithinLimits values

-- the least number of a set
abbrev pub least_of : List ℤ → ℤ
least_of values = get_or values 0 (pos 0)

-- a number from 0 on, and 0 for those below
abbrev pub to_natural : ℤ → ℕ
to_natural (pos n) = n
to_natural (negsuc n) = 0

-- so many numbers from `low` on
unfoldable pub run : ℤ → ℕ → List ℤ
run low zero = []
run low (suc n) = low ∷ run (low +ℤ pos 1) n

-- the numbers from `low` to `high`
unfoldable pub values_between : ℤ → ℤ → List ℤ
values_between low high = run low (to_natural ((high +ℤ pos 1) -ℤ low))

-- the set is one range within the limits
pub record IsRange (values : List ℤ) (r : Interval) : Type 0 where
  pub same : values ≡ values_between r.low r.high
  pub from : neg_ℤ greatest_value ≤ℤ r.low
  pub ordered : r.low ≤ℤ r.high
  pub to : r.high ≤ℤ greatest_value

-- the numbers from `next` to `last` stand one after the other from a place on
abbrev pub StandFrom : List ℤ → ℕ → ℤ → ℤ → Type 0
StandFrom values place next last =
    (w : ℤ) → next ≤ℤ w → w ≤ℤ last → slice_get values (place + to_natural (w -ℤ next)) ≡ Some w

-- the numbers from `next` to `last`, if there are any, stand from a place on, and are within the limits
pub record AreNext (values : List ℤ) (place : ℕ) (next last : ℤ) : Type 0 where
  pub from : neg_ℤ greatest_value ≤ℤ next
  pub ordered : next ≤ℤ (last +ℤ pos 1)
  pub to : last ≤ℤ greatest_value
  pub stand : StandFrom values place next last

-- the numbers of the ranges, one range after the other
unfoldable pub values_of : List Interval → List ℤ
values_of [] = []
values_of (r ∷ rs) = values_between r.low r.high ++ values_of rs

-- no range is empty, each begins at `from` or later and ends within the limits, and a gap lies before the next one
unfoldable pub RangesFrom : ℤ → List Interval → Type 0
RangesFrom from [] = Unit {0}
RangesFrom from (r ∷ rs) =
    (from ≤ℤ r.low) × (r.low ≤ℤ r.high) × (r.high ≤ℤ greatest_value) × RangesFrom (r.high +ℤ pos 2) rs

-- the ranges of a set in its one form
pub record AreRanges (ranges : List Interval) : Type 0 where
  pub apart : RangesFrom (neg_ℤ greatest_value) ranges
  pub some : ranges ≢ []
