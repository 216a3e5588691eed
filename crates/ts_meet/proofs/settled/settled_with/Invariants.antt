use Rattle.std.specs.Prelude.{◌≤◌}
use Rattle.ts_glue.specs.Pairs.{Pair}
use Rattle.ts_meet.specs.Ends.{needed_ends}
use Rattle.ts_meet.specs.Joints.{AreJoints}
use Rattle.ts_meet.specs.Settled.{Between, IsSettledBySome}
use Rattle.ts_meet.proofs.settled.settled_with.Given as goal

abbrev pub invariant-loop-r : goal.invariant-loop-r
invariant-loop-r g l =
    (l.from ≤ l.at) × (l.at ≤ l.to) × ((p : Pair) → AreJoints p l.joints →
    Between l.from l.at (IsSettledBySome g.row.N (needed_ends l.needed) p l.q l.left l.right l.cells))
