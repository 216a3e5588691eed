use Rattle.std.proofs.Common.{sym, subst}
use Rattle.ts_automaton.specs.AutomatonRun.{standing_of}
use Rattle.ts_automaton.specs.Kinds.{Fits}
use Rattle.ts_automaton.specs.Registers.{numbers, regs_of}
use Rattle.ts_glue.specs.Glue.{GlueTakes, registers_in}
use Rattle.ts_glue.specs.Shapes.{expression}
use Rattle.ts_glue.proofs.Calls.{value_fits}
use Rattle.ts_glue.proofs.glue.glue_value.Goals as goal

pub glued-value-requires-clause-fits : goal.glued-value-requires-clause-fits
glued-value-requires-clause-fits c =
    let g = c.gluing-gluing in let u = expression g.result in
    subst (λ s. GlueTakes Fits numbers s (registers_in c.of_run-2.result) u)
    (sym c.of_run.ensures)
    (subst (λ s. GlueTakes Fits numbers (regs_of c.args.left.regs) s u) (sym c.of_run-2.ensures)
    (value_fits c.args.m.now c.requires.split g.ensures.forward_rules g.ensures.reverse_rules u (standing_of c.args.left) (standing_of c.args.right)
    c.requires.left c.requires.right _ g.ensures.value))
