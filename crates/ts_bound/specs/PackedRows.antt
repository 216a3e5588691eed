-- Rows that stay packed.
use Rattle.std.specs.Prelude.{◌≡◌, ℕ, ℤ, List, length, map}
use Rattle.ts_automaton.specs.declared.regs.Hull.{Hull}
use Rattle.ts_automaton.specs.Body.{Body}
use Rattle.ts_sweep.specs.declared.packed.PackedHull.{PackedHull}
use Rattle.ts_sweep.specs.Sides.{Sides, seen_hull, sides}
use Rattle.ts_row.specs.Rows.{IsRow, flat_row}
use Rattle.ts_bound.specs.HullTables.{row_of}

-- what is seen of the hulls of a row
abbrev pub seen_row : Sides → List Hull → List Hull
seen_row s row = map (seen_hull s) row

-- a packed row is what is seen of that of a cell with these values, after these cells
pub record IsPackedRow (n : ℕ) (b : Body) (before : List (List ℤ)) (values : List ℤ)
    (row : List (List (PackedHull n))) : Type 0 where
  pub is_row : IsRow n (length b.states) (length values) row
  pub is_flat : flat_row n (length b.states) (length values) row ≡ seen_row (sides n) (row_of b before values)
