-- Where a box is split: at its first cell with two or more values, by the lower middle one.
use Rattle.std.specs.Prelude.{◌≡◌, ℕ, ◌-◌, ◌/◌, ◌≤◌, ℤ, pos, List, length, get_or, take}
use Rattle.std.specs.List.{AllByRecursion}
use Rattle.ts_filter.specs.Boxes.{Box, HasCell, values_at}

-- each cell has one value
abbrev pub IsSingle : Box → Type 0
IsSingle b = AllByRecursion (λ d. length d ≡ 1) b

-- of m values in rising order the one at place (m + 1) / 2, counted from 1; of one value that one
abbrev pub middle_of : List ℤ → ℤ
middle_of d = get_or d ((length d - 1) / 2) (pos 0)

-- cell k is the first with two or more values, and t the lower middle one of them
pub record IsHalving (k : ℕ) (t : ℤ) (b : Box) : Type 0 where
  pub cell : HasCell k b
  pub before : IsSingle (take (k - 1) b)
  pub many : 2 ≤ length (values_at k b)
  pub middle : t ≡ middle_of (values_at k b)
