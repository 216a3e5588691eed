use Rattle.std.proofs.Common.{◌+◌, ◌-◌, ◌≤◌, ℤ, List, cond}
use Rattle.ts_bound.specs.PackedRows.{IsPackedRow}
use Rattle.ts_domain.specs.BoxSeries.{cell_of}
use Rattle.ts_machine_tests.proofs.packed_rows.row_after.Given as goal

abbrev pub invariant-loop-read : goal.invariant-loop-read
invariant-loop-read g l =
    (l.read ≤ l.before)
    × (cells : List (List ℤ))
    × IsPackedRow g.row.N l.a cells (cell_of (cond l.back (l.n - l.read) (l.read + 1)) l.cells) l.row
