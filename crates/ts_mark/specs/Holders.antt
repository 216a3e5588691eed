-- Which ranges hold a cell, by their numbers, counted from 1.
use Rattle.std.specs.Prelude.{◌≡◌, ℕ, ◌+◌, ◌≤◌, List, [], ◌∷◌, Some, slice_get}
use Rattle.std.specs.List.{AllByRecursion}
use Rattle.ts_base.specs.declared.range.Range.{Range}
use Rattle.ts_pattern.specs.EachOf.{OneOf}

-- the range of number m holds the cell, where the first has the number n
pub record IsHolder (cell n : ℕ) (ranges : List Range) (m : ℕ) : Type 0 where
  pub place : ℕ
  pub range : Range
  pub number : m ≡ n + place
  pub is_there : slice_get ranges place ≡ Some range
  pub first : range.first ≤ cell
  pub last : cell ≤ range.last

-- the numbers rise, from at least n on
abbrev pub RiseFrom : ℕ → List ℕ → Type 0
RiseFrom n [] = Unit {0}
RiseFrom n (m ∷ ms) = (n ≤ m) × RiseFrom (m + 1) ms

-- these are the numbers of the ranges that hold the cell, each once and rising, and no others
pub record AreHolders (cell : ℕ) (ranges : List Range) (numbers : List ℕ) : Type 0 where
  pub rising : RiseFrom 1 numbers
  pub each : AllByRecursion (λ m. IsHolder cell 1 ranges m) numbers
  pub all : (m : ℕ) → IsHolder cell 1 ranges m → OneOf (λ n. n ≡ m) numbers
