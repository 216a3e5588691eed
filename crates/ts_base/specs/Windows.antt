-- The cells that are looked at: all of a series, or those of a window.
use Rattle.std.specs.Prelude.{ℕ, ◌-◌, ◌≤◌, List, slice_range, Option, Some, None, IfSome}
use Rattle.ts_base.specs.declared.range.Range.{Range}

-- the range has a cell, and lies in a series of n cells
abbrev pub IsInside : ℕ → Range → Type 0
IsInside n r = (1 ≤ r.first) × (r.first ≤ r.last) × (r.last ≤ n)

-- the cells of a range
abbrev pub cells_of : {A : Type 0} → Range → List A → List A
cells_of r xs = slice_range xs (r.first - 1) r.last

-- all cells, or those of the window where there is one
abbrev pub looked_at : {A : Type 0} → Option Range → List A → List A
looked_at None xs = xs
looked_at (Some window) xs = cells_of window xs

-- the window, where there is one, lies in a series of n cells
abbrev pub LooksInside : ℕ → Option Range → Type 0
LooksInside n window = IfSome window (IsInside n)
