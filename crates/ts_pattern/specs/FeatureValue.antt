-- What an e-range of a series is worth (Global Constraint Catalog, Volume II: features).
use Rattle.std.specs.Prelude.{ℤ, pos, ◌+ℤ◌, ◌-ℤ◌, List, [], ◌∷◌, length, Option, None, Some}
use Rattle.std.specs.List.{fold}
use Rattle.std.specs.Int.{int_max, int_min}
use Rattle.ts_base.specs.declared.range.Range.{Range}
pub use Rattle.ts_base.specs.Windows.{cells_of}
use Rattle.ts_pattern.specs.declared.name.Feature.{Feature}
use Rattle.ts_pattern.specs.declared.name.Feature.TheVariants.{One, Width, Surf, Max, Min, Range as RangeFeature}

-- the first number, joined with each further one; nothing where there is none
abbrev pub over : (ℤ → ℤ → ℤ) → List ℤ → Option ℤ
over op [] = None
over op (x ∷ xs) = Some (fold op x xs)

abbrev pub or_zero : Option ℤ → ℤ
or_zero None = pos 0
or_zero (Some x) = x

-- 1, the number of the cells, the sum, the greatest or the least of them, or the greatest less the least; an e-range
-- has a cell
abbrev pub feature_of_cells : Feature → List ℤ → ℤ
feature_of_cells One cells = pos 1
feature_of_cells Width cells = pos (length cells)
feature_of_cells Surf cells = fold ◌+ℤ◌ (pos 0) cells
feature_of_cells Max cells = or_zero (over int_max cells)
feature_of_cells Min cells = or_zero (over int_min cells)
feature_of_cells RangeFeature cells = or_zero (over int_max cells) -ℤ or_zero (over int_min cells)

abbrev pub feature_value : Feature → Range → List ℤ → ℤ
feature_value f r xs = feature_of_cells f (cells_of r xs)
