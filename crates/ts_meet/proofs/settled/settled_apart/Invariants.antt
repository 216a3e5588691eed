use Rattle.std.specs.Prelude.{◌≡◌, ℕ, false}
use Rattle.ts_glue.specs.Glue.{is_join}
use Rattle.ts_glue.specs.Pairs.{Pair}
use Rattle.ts_meet.specs.Ends.{needed_ends}
use Rattle.ts_meet.specs.Joints.{AreJoints}
use Rattle.ts_meet.specs.Settled.{Between, IsSettledBy}
use Rattle.ts_meet.proofs.settled.settled_apart.Given as goal

abbrev pub invariant-loop-i : goal.invariant-loop-i
invariant-loop-i g l =
    (p : Pair) (q r : ℕ) → AreJoints p l.joints → is_join p.table q r ≡ false →
    Between l.from l.i (IsSettledBy g.row.N (needed_ends l.needed) p q r l.left l.right l.cells)
