use Rattle.std.specs.Prelude.{ℕ}
use Rattle.ts_meet.specs.Along.{column_finish}
use Rattle.ts_meet.specs.Sides.{StandFor}
use Rattle.ts_meet.proofs.finished.trees.Given as goal

abbrev pub invariant-loop-i : goal.invariant-loop-i
invariant-loop-i g l = (q : ℕ) → StandFor l.hull (column_finish g.row.N l.a q l.hulls l.from l.n l.i)
