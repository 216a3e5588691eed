use Rattle.std.proofs.Common.{rules}
use Rattle.ts_sweep.specs.Sides.{has_wide}
use Rattle.ts_row.proofs.NextShapes.{inside_swept}
use Rattle.ts_row.proofs.next_shapes.inside_next_as.Goals as goal

pub sweep_next-requires : goal.sweep_next-requires
sweep_next-requires g c =
    let swept = inside_swept (has_wide g.row.N) (g.O.Operator.op c.args.by) (g.O.Folds.fold c.args.by) (g.V.Front.formula c.args.start) in
    (search rules, (search rules, (swept, (c.requires.covered, c.requires.next_packed))))
