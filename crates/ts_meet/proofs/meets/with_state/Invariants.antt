use Rattle.std.specs.Prelude.{fold}
use Rattle.ts_automaton.specs.Registers.{spans_of}
use Rattle.ts_base.specs.declared.span.Span.{Span}
use Rattle.ts_base.specs.Spans.{span_hull}
use Rattle.ts_glue.specs.Pairs.{Pair}
use Rattle.ts_meet.specs.Joints.{AreJoints}
use Rattle.ts_meet.specs.Meets.{spans_with, standing}
use Rattle.ts_meet.specs.Sides.{StandFor}
use Rattle.ts_row.specs.Rows.{lanes_of}
use Rattle.ts_sweep.specs.Packed.{unpacked}
use Rattle.ts_meet.proofs.meets.with_state.Given as goal

abbrev pub invariant-loop-r : goal.invariant-loop-r
invariant-loop-r g l =
    (p : Pair) (s : Span) → AreJoints p l.joints → StandFor l.fn.hull s →
    StandFor l.all (fold span_hull s (spans_with g.row.N p (standing l.q (spans_of (unpacked (lanes_of g.row.N l.left)))) l.right
    l.spot.place l.spot.value l.spot.cells l.r))
