-- What is known of the numbers of a set that are still to come.
use Rattle.std.specs.Prelude.{◌≡◌, ℕ, ◌+◌, Some, slice_get, Contains}
use Rattle.std.specs.Prelude.{ℤ, pos, ◌+ℤ◌, ◌-ℤ◌, ◌≤ℤ◌, ◌<ℤ◌, ◌⊎◌, List, []}
use Rattle.ts_domain.specs.declared.interval.Interval.{Interval}
use Rattle.ts_domain.specs.declared.way.Way.{Way}
use Rattle.ts_domain.specs.Union.{InSome}
use Rattle.ts_domain.specs.Values.{AreNext, IsRising, RangesFrom, WithinLimits}

-- the numbers after those from `next` to `last`, which stand from a place on, are those of some ranges up to a limit
pub record HasBehind (values : List ℤ) (place : ℕ) (next last : ℤ) (rest : List Interval) (limit : ℤ) : Type 0 where
  pub rising : IsRising values
  pub here : (i : ℕ) × (pos (i + 1) ≡ pos place +ℤ ((last +ℤ pos 1) -ℤ next)) × (slice_get values i ≡ Some last)
  pub apart : RangesFrom (last +ℤ pos 2) rest
  pub limited : WithinLimits limit
  pub each : (v : ℤ) → InSome rest v → v ≤ℤ limit → Contains values v
  pub only : (v : ℤ) → Contains values v → last <ℤ v → InSome rest v × (v ≤ℤ limit)

-- there is no range, or the numbers after `last` are those of the ranges up to the limit
abbrev pub AreBehind : List ℤ → ℕ → ℤ → ℤ → List Interval → ℤ → Type 0
AreBehind values place next last rest limit = (rest ≡ []) ⊎ HasBehind values place next last rest limit

-- the numbers from a place on
pub record IsWay (values : List ℤ) (place : ℕ) (way : Way) : Type 0 where
  pub next : AreNext values place way.next way.last
  pub behind : HasBehind values place way.next way.last way.rest.now way.limit
