use Rattle.ts_automaton.specs.AutomatonRun.{standing_of}
use Rattle.ts_automaton.specs.Body.{move_of}
use Rattle.ts_automaton.specs.Kinds.{HasKind, Fits}
use Rattle.ts_automaton.specs.Registers.{numbers, regs_of}
use Rattle.ts_automaton.proofs.KindLaws.{numbers_typed}
use Rattle.ts_automaton.proofs.StepLaws.{move_takes, stands_after}
use Rattle.ts_automaton.proofs.automaton.Automaton.step.Goals as goal

pub moved-requires : goal.moved-requires
moved-requires c =
    move_takes numbers HasKind Fits numbers_typed c.args.self.now c.turn-turn.ensures.rules c.args.at.state c.letter_of.result c.requires.exists
    (regs_of c.args.at.regs) c.requires.kinds
    (move_of c.turn-turn.result.now) c.turn-turn.ensures.value _ _

pub returns-clause-stands : goal.returns-clause-stands
returns-clause-stands c =
    stands_after c.args.self.now c.turn-turn.ensures.rules (standing_of c.args.at) c.requires c.letter_of.result
    (move_of c.turn-turn.result.now) c.turn-turn.ensures.value _ _ _ c.moved.ensures
