use Rattle.std.proofs.Common.{length, get_or, []}
use Rattle.ts_row.specs.Rows.{flat_row}
use Rattle.ts_bound.proofs.PlainRows.{IsWritten}
use Rattle.ts_bound.proofs.plain_rows.write_hulls.Given as goal

abbrev pub invariant-loop-p : goal.invariant-loop-p
invariant-loop-p g l = IsWritten l.fn.row (flat_row g.row.N l.states (length (get_or l.view 0 [])) l.view) l.p l.row
