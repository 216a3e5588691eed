use Rattle.std.specs.Prelude.{ℕ}
use Rattle.ts_glue.specs.Pairs.{Pair}
use Rattle.ts_meet.specs.Along.{pair_along}
use Rattle.ts_meet.specs.Joints.{AreJoints, IsGluing}
use Rattle.ts_meet.specs.Sides.{StandFor}
use Rattle.ts_meet.proofs.along.along_values.Given as goal

abbrev pub invariant-loop-i : goal.invariant-loop-i
invariant-loop-i g l =
    (p : Pair) (q r : ℕ) → AreJoints p l.joints → IsGluing p q r l.gluing →
    StandFor l.hull (pair_along g.row.N p q r l.left l.right l.from l.values l.cells l.i)
