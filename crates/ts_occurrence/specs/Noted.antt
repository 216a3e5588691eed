-- What becomes of the occurrences at a letter, by the least start of a match that ends there.
use Rattle.std.specs.Prelude.{◌≡◌, ℕ, ◌+◌, ◌-◌, ◌<◌, ◌≤◌, List, [], ◌∷◌, ◌++◌, length, take, drop, slice_get, Option, None, Some}
use Rattle.ts_base.specs.declared.range.Range.{Range}
use Rattle.std.specs.List.{AllByRecursion}
use Rattle.ts_pattern.specs.OccurrenceList.{e_range}

-- the first kept ranges are those that begin before the cell
pub record IsCut (ranges : List Range) (cell kept : ℕ) : Type 0 where
  pub inside : kept ≤ length ranges
  pub before : (r : Range) → 0 < kept → slice_get ranges (kept - 1) ≡ Some r → r.first < cell
  pub behind : AllByRecursion (λ r. cell ≤ r.first) (drop kept ranges)

-- without such a match all stay; else those that begin before it stay, and it comes last. `read` signs were read before
abbrev pub IsNoted : ℕ → ℕ → ℕ → Option ℕ → List Range → List Range → Type 0
IsNoted b a read None old new = new ≡ old
IsNoted b a read (Some start) old new =
    (kept : ℕ) × IsCut old (start + 1 + b) kept
    × (new ≡ take kept old ++ e_range b a (record { start = start; end = read + 1 }) ∷ [])
