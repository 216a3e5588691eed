use Rattle.std.proofs.Common.{rules}
use Rattle.ts_sweep.specs.Sides.{has_wide}
use Rattle.ts_row.proofs.SumShapes.{emitted_swept}
use Rattle.ts_row.proofs.sum_shapes.emitted_as.Goals as goal

pub sweep_next-requires : goal.sweep_next-requires
sweep_next-requires g c =
    let swept = emitted_swept (has_wide g.row.N) (g.V.Front.formula c.args.start) (g.P.Part.split c.args.ranges) c.requires.swept in
    (search rules, (search rules, (swept, (c.requires.covered, c.requires.next_packed))))
