use Rattle.ts_bound.specs.RowWindows.{AreForgotten}
use Rattle.ts_bound.proofs.row_stack.forget.Given as goal

abbrev pub invariant-loop-i : goal.invariant-loop-i
invariant-loop-i l = AreForgotten l.from l.i l.fn.rows.items l.rows.items
