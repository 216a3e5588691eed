use Rattle.ts_meet.specs.Meets.{finishes_in, hull_of_spans}
use Rattle.ts_meet.specs.Sides.{StandFor}
use Rattle.ts_meet.proofs.meets.finish_at.Given as goal

abbrev pub invariant-loop-q : goal.invariant-loop-q
invariant-loop-q g l = StandFor l.hull (hull_of_spans (finishes_in g.row.N l.a l.row l.i l.n l.q))
