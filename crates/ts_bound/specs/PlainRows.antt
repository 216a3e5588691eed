-- Packed rows that hold as much as hulls that aren't packed; and the tables that are made of them.
use Rattle.std.specs.Prelude.{◌≡◌, ◌<◌, ℕ, ◌-◌, ℤ, List, Option}
use Rattle.ts_base.specs.declared.range.Range.{Range}
use Rattle.ts_automaton.specs.declared.regs.Hull.{Hull}
use Rattle.ts_automaton.specs.Body.{Body}
use Rattle.ts_sweep.specs.Sides.{BothEnds}
use Rattle.ts_row.specs.Rows.{IsRow}
use Rattle.ts_bound.specs.AnyRows.{columns, form_of, form_sides, lanes_of}
use Rattle.ts_bound.specs.HullTables.{backward_table, forward_table}
use Rattle.ts_bound.specs.RowStacks.{values_in}
use Rattle.ts_bound.specs.declared.any_row.AnyRow.{AnyRow}
use Rattle.ts_bound.specs.declared.reading.Direction.{Direction}
use Rattle.ts_bound.specs.declared.reading.Direction.TheVariants.{FromFirst, FromLast}

-- a row of `states` states with both ends of each register
pub record IsPlain (states : ℕ) (row : AnyRow) : Type 0 where
  pub both : form_sides (form_of row) ≡ BothEnds
  pub some : 0 < states
  pub is_row : IsRow (lanes_of row) states (values_in row) (columns row)

-- the table of an automaton that reads the cells in this order
abbrev pub table_by : Direction → Body → Option Range → List (List ℤ) → List (List Hull)
table_by FromFirst b w cells = forward_table b w cells
table_by FromLast b w cells = backward_table b w cells

-- at which place cell k is read, where it is one of the cells from the first to the last
abbrev pub place_by : Direction → (first last k : ℕ) → ℕ
place_by FromFirst first last k = k - first
place_by FromLast first last k = last - k
