use Rattle.std.proofs.Common.{◌∙◌}
use Rattle.ts_automaton.specs.Registers.{spans_of}
use Rattle.ts_base.specs.Spans.{none_span}
use Rattle.ts_glue.specs.Glued.{glue_span_at}
use Rattle.ts_row.specs.Rows.{lanes_of}
use Rattle.ts_sweep.specs.Packed.{unpacked}
use Rattle.ts_sweep.specs.Sides.{seen, sides}
use Rattle.ts_meet.specs.Meets.{standing}
use Rattle.ts_meet.proofs.AloneLaws.{marked_alone}
use Rattle.ts_meet.proofs.alone.glued_pair.Goals as goal

pub returns : goal.returns
returns g c p h =
    let left = standing c.args.q (spans_of (unpacked (lanes_of g.row.N c.args.left.now))) in
    let right = standing c.args.r (spans_of (unpacked (lanes_of g.row.N c.args.right.now))) in
    c.span_of.ensures _ (c.with_pair-hull.ensures p none_span h c.nothing.ensures)
    ∙ marked_alone p.forward.mark c.args.spot.cells (seen (sides g.row.N) (glue_span_at p left right c.args.spot.value))
