use Rattle.std.proofs.Common.{◌∙◌}
use Rattle.ts_automaton.specs.Registers.{spans_of}
use Rattle.ts_automaton.specs.SpanRun.{finished_span}
use Rattle.ts_base.specs.Spans.{none_span}
use Rattle.ts_row.specs.Rows.{lanes_of}
use Rattle.ts_sweep.specs.Packed.{unpacked}
use Rattle.ts_sweep.specs.Sides.{seen, sides}
use Rattle.ts_meet.proofs.AloneLaws.{marked_alone}
use Rattle.ts_meet.proofs.alone.finish_of.Goals as goal

pub returns : goal.returns
returns g c q =
    c.span_of.ensures _ (c.with_finish-hull.ensures q none_span c.nothing.ensures)
    ∙ marked_alone c.args.a.now.mark c.args.n
    (seen (sides g.row.N) (finished_span c.args.a.now (spans_of (unpacked (lanes_of g.row.N c.args.h.now)))))
