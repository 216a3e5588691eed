-- The union of ranges, also where they are given by two lists of one length, the low ends and the high ends.
use Rattle.std.specs.Prelude.{ℕ, ◌<◌, ℤ, pos, neg_ℤ, ◌≤ℤ◌, ◌<ℤ◌, ◌⊎◌, List, [], ◌∷◌, length, get_or, map}
use Rattle.std.specs.List.{zip}
use Rattle.ts_base.specs.Limits.{greatest_value}
use Rattle.ts_domain.specs.declared.interval.Interval.{Interval}

-- some range has the number
abbrev pub InSomeRange : List ℤ → List ℤ → ℤ → Type 0
InSomeRange lows highs v = (i : ℕ) × (i < length lows) × (get_or lows i (pos 0) ≤ℤ v) × (v ≤ℤ get_or highs i (pos 0))

-- some range has no number
abbrev pub SomeEmpty : List ℤ → List ℤ → Type 0
SomeEmpty lows highs = (i : ℕ) × (i < length lows) × (get_or highs i (pos 0) <ℤ get_or lows i (pos 0))

-- the two lists as one list of ranges
abbrev pub intervals_of : List ℤ → List ℤ → List Interval
intervals_of lows highs = map (λ p. record { low = p.0; high = p.1 }) (zip lows highs)

-- some range of the list has the number
unfoldable pub InSome : List Interval → ℤ → Type 0
InSome [] v = ⊥
InSome (r ∷ rs) v = ((r.low ≤ℤ v) × (v ≤ℤ r.high)) ⊎ InSome rs v

-- not empty, and within the limits
abbrev pub IsUsable : Interval → Type 0
IsUsable r = (neg_ℤ greatest_value ≤ℤ r.low) × (r.low ≤ℤ r.high) × (r.high ≤ℤ greatest_value)

-- no range is empty, none ends beyond the limits, and their low ends rise from a number on
unfoldable pub LowsRise : ℤ → List Interval → Type 0
LowsRise from [] = Unit {0}
LowsRise from (r ∷ rs) = (from ≤ℤ r.low) × (r.low ≤ℤ r.high) × (r.high ≤ℤ greatest_value) × LowsRise r.low rs
