use Rattle.std.proofs.Common.{◌≡◌, Some}
use Rattle.ts_bound.specs.Blocks.{glued_all}
use Rattle.ts_glue.specs.Pairs.{Pair}
use Rattle.ts_meet.specs.Joints.{AreJoints}
use Rattle.ts_meet.specs.Meets.{hull_of_spans}
use Rattle.ts_bound.proofs.block.glue_block.Given as goal

abbrev pub invariant-loop-q : goal.invariant-loop-q
invariant-loop-q l =
    (p : Pair) → AreJoints p l.joints → l.span ≡ hull_of_spans (glued_all (Some p) l.left l.right l.fn.cell l.n l.joints.right_states l.q)
