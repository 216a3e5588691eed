use Rattle.std.proofs.Common.{rules}
use Rattle.ts_automaton.specs.declared.expr.Atom.TheVariants.{This}
use Rattle.ts_automaton.specs.Formula.{Leaf}
use Rattle.ts_sweep.specs.Sides.{has_wide}
use Rattle.ts_row.proofs.NextShapes.{found_swept}
use Rattle.ts_row.proofs.next_shapes.found_next_as.Goals as goal

pub sweep_next-requires : goal.sweep_next-requires
sweep_next-requires g c =
    let swept =
    found_swept (has_wide g.row.N) (g.O.Operator.op c.args.by) (g.O.Folds.fold c.args.by) (Leaf This) (g.V.Front.formula c.args.start) in
    (search rules, (search rules, (swept, (c.requires.covered, c.requires.next_packed))))
