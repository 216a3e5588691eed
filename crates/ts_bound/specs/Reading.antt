-- The cells that a machine looks at, in the order in which one of its automata reads them.
use Rattle.std.specs.Prelude.{◌≡◌, ◌<◌, ◌-◌, ℕ, ℤ, List, [], get_or, reverse}
use Rattle.ts_base.specs.Windows.{looked_at}
use Rattle.ts_domain.specs.Boxes.{Box}
use Rattle.ts_bound.specs.declared.reading.Reading.{Reading}
use Rattle.ts_bound.specs.declared.reading.Direction.{Direction}
use Rattle.ts_bound.specs.declared.reading.Direction.TheVariants.{FromFirst, FromLast}

-- the cells of a box in the order in which they are read
abbrev pub in_order : Direction → Box → Box
in_order FromFirst b = b
in_order FromLast b = reverse b

abbrev pub cells_read : Reading → Box
cells_read r = in_order r.direction (looked_at r.window r.cells.now.present)

-- the values of the cell before the one at place i, if there is one
abbrev pub IsBefore : Box → ℕ → List ℤ → Type 0
IsBefore cells i values = 0 < i → values ≡ get_or cells (i - 1) []
