-- How many numbers lie before each range of a set, and the place of a number in it.
use Rattle.std.specs.Prelude.{◌≡◌, ℕ, ◌+◌, ◌-◌, ◌≤◌, ℤ, pos, neg_ℤ, ◌+ℤ◌, ◌≤ℤ◌, Some, List, [], ◌∷◌, length, get_or, slice_get}
use Rattle.ts_base.specs.Limits.{greatest_value}
use Rattle.ts_domain.specs.declared.interval.Interval.{Interval}
use Rattle.ts_domain.specs.Values.{values_between, values_of}

-- of each range how many numbers lie before it, of which n lie before all
unfoldable pub counts_from : ℕ → List Interval → List ℕ
counts_from n [] = []
counts_from n (r ∷ rs) = n ∷ counts_from (n + length (values_between r.low r.high)) rs

-- range k is the one that has the number at place i
pub record HasPlace (ranges : List Interval) (before : List ℕ) (i k : ℕ) : Type 0 where
  pub from : get_or before k 0 ≤ i
  pub small : i - get_or before k 0 ≤ 2000003
  pub within : (e : Interval) →
      (neg_ℤ greatest_value ≤ℤ (get_or ranges k e).low) × ((get_or ranges k e).low ≤ℤ greatest_value)
  pub value : (e : Interval) (v : ℤ) → v ≡ (get_or ranges k e).low +ℤ pos (i - get_or before k 0) →
      slice_get (values_of ranges) i ≡ Some v
