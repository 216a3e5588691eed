-- Series within the limits.
use Rattle.std.specs.Prelude.{ℕ, ◌≤◌, ℤ, List, length}
use Rattle.std.specs.List.{All}
use Rattle.ts_base.specs.Limits.{most_cells, IsCellValue}

-- a series of 1 to so many cells
pub record IsSeriesUpTo (most : ℕ) (xs : List ℤ) : Type 0 where
  pub some : 1 ≤ length xs
  pub few : length xs ≤ most
  pub cells : All IsCellValue xs

-- a series of a model
abbrev pub IsSeries : List ℤ → Type 0
IsSeries xs = IsSeriesUpTo most_cells xs
