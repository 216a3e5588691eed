use Rattle.ts_meet.specs.Peaks.{AreWatched}
use Rattle.ts_meet.proofs.column.Watched.of_hulls.Given as goal

abbrev pub invariant-loop-i : goal.invariant-loop-i
invariant-loop-i g l = AreWatched g.row.N l.all l.hulls l.from l.i
