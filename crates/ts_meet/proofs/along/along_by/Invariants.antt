use Rattle.std.specs.Prelude.{length}
use Rattle.ts_glue.specs.Pairs.{Pair}
use Rattle.ts_meet.specs.Along.{between_along, hull_over}
use Rattle.ts_meet.specs.Joints.{AreJoints}
use Rattle.ts_meet.specs.Sides.{StandFor}
use Rattle.ts_meet.proofs.along.along_by.Given as goal

abbrev pub invariant-loop-q : goal.invariant-loop-q
invariant-loop-q g l =
    (p : Pair) → AreJoints p l.joints →
    StandFor l.hull (hull_over (between_along g.row.N p l.left l.right l.from l.values l.cells l.q) (length l.values))
