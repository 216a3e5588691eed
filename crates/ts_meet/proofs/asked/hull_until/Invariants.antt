use Rattle.std.proofs.Common.{length}
use Rattle.ts_glue.specs.Pairs.{Pair}
use Rattle.ts_meet.specs.Joints.{AreJoints}
use Rattle.ts_meet.specs.Meets.{hull_of_spans, spans_between}
use Rattle.ts_meet.specs.Sides.{StandFor}
use Rattle.ts_meet.proofs.asked.hull_until.Given as goal

abbrev pub invariant-loop-q : goal.invariant-loop-q
invariant-loop-q g l =
    (p : Pair) → AreJoints p l.joints →
    StandFor l.hull (hull_of_spans (spans_between g.row.N p l.left l.right l.spot.place l.spot.value l.spot.cells (length p.reverse.states) l.q))
