use Rattle.std.proofs.Common.{rules}
use Rattle.ts_sweep.specs.Sides.{has_wide}
use Rattle.ts_row.proofs.NextShapes.{longer_swept}
use Rattle.ts_row.proofs.next_shapes.longer_next_as.Goals as goal

pub sweep_next-requires : goal.sweep_next-requires
sweep_next-requires g c =
    (search rules, (search rules, (longer_swept (has_wide g.row.N) (g.O.Folds.fold c.args.by), (c.requires.covered, c.requires.next_packed))))
