use Rattle.std.proofs.Common.{rules}
use Rattle.ts_automaton.specs.declared.expr.Atom.TheVariants.{Zero}
use Rattle.ts_automaton.specs.Formula.{Leaf}
use Rattle.ts_sweep.specs.Sides.{has_wide}
use Rattle.ts_sweep.proofs.Widths.{fronts_whole}
use Rattle.ts_row.proofs.shapes.found_twice_as.Goals as goal

pub sweep_as-requires : goal.sweep_as-requires
sweep_as-requires g c =
    (search rules, (search rules, (fronts_whole (has_wide g.row.N) (Leaf Zero) _ (Leaf Zero) _ (Leaf Zero), (c.requires.covered, c.requires.next_packed))))
