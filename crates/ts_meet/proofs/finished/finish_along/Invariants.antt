use Rattle.ts_meet.specs.Along.{finishes_along, hull_over}
use Rattle.ts_meet.specs.Sides.{StandFor}
use Rattle.ts_meet.proofs.finished.finish_along.Given as goal

abbrev pub invariant-loop-q : goal.invariant-loop-q
invariant-loop-q g l = StandFor l.hull (hull_over (finishes_along g.row.N l.a l.row l.from l.n l.q) l.count)
