use Rattle.std.proofs.Common.{◌≤◌, ◌-◌}
use Rattle.ts_bound.specs.PlainRows.{table_by}
use Rattle.ts_bound.proofs.Filled.{IsFilled}
use Rattle.ts_bound.proofs.tables.table_of.Given as goal

abbrev pub invariant-loop-k : goal.invariant-loop-k
invariant-loop-k l = IsFilled (table_by l.fn.direction l.a l.fn.window l.cells.present) l.first l.k l.table × (l.first - 1 ≤ l.k)
