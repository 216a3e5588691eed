use Rattle.ts_automaton.specs.Kinds.{HasKind, Fits}
use Rattle.ts_automaton.specs.Registers.{numbers, regs_of}
use Rattle.ts_automaton.proofs.KindLaws.{numbers_typed}
use Rattle.ts_automaton.proofs.StepLaws.{finish_takes}
use Rattle.ts_automaton.proofs.automaton.Automaton.finish.Goals as goal

pub value-requires : goal.value-requires
value-requires c =
    finish_takes numbers HasKind Fits numbers_typed c.args.self.now c.finish_expr.ensures.rules c.args.at.state
    (regs_of c.args.at.regs) c.requires.kinds _ c.finish_expr.ensures.value
