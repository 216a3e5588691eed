use Rattle.std.proofs.Common.{◌≡◌, Some}
use Rattle.std.specs.Prelude.{fold}
use Rattle.ts_automaton.specs.Registers.{spans_of}
use Rattle.ts_base.specs.Spans.{span_hull}
use Rattle.ts_bound.specs.Blocks.{glued_with}
use Rattle.ts_glue.specs.Pairs.{Pair}
use Rattle.ts_meet.specs.Joints.{AreJoints}
use Rattle.ts_meet.specs.Meets.{standing}
use Rattle.ts_bound.proofs.block.glue_state.Given as goal

abbrev pub invariant-loop-r : goal.invariant-loop-r
invariant-loop-r l =
    (p : Pair) → AreJoints p l.joints →
    l.span ≡ fold span_hull l.fn.before (glued_with (Some p) (standing l.q (spans_of l.left)) l.right l.fn.cell l.n l.r)
