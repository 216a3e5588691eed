use Rattle.std.specs.Prelude.{◌≤◌}
use Rattle.ts_glue.specs.Pairs.{Pair}
use Rattle.ts_meet.specs.Ends.{needed_ends}
use Rattle.ts_meet.specs.Joints.{AreJoints}
use Rattle.ts_meet.specs.Settled.{Between, IsSettled}
use Rattle.ts_meet.proofs.settled.settled_in.Given as goal

abbrev pub invariant-loop-q : goal.invariant-loop-q
invariant-loop-q g l =
    (l.from ≤ l.at) × (l.at ≤ l.to) × ((p : Pair) → AreJoints p l.joints →
    Between l.from l.at (IsSettled g.row.N (needed_ends l.needed) p l.left l.right l.cells))
