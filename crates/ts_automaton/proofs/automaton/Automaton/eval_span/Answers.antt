use Rattle.ts_automaton.specs.Body.{move_of}
use Rattle.ts_automaton.specs.SpanRun.{hull_standing}
use Rattle.ts_automaton.proofs.StepLaws.{hull_takes, hull_stands_after}
use Rattle.ts_automaton.proofs.automaton.Automaton.eval_span.Goals as goal

pub moved_hull-requires : goal.moved_hull-requires
moved_hull-requires c =
    hull_takes c.args.self.now c.turn-turn.ensures.rules (hull_standing c.args.at) c.requires c.letter_of.result
    (move_of c.turn-turn.result.now) c.turn-turn.ensures.value _ _

pub returns-clause-stands : goal.returns-clause-stands
returns-clause-stands c =
    hull_stands_after c.args.self.now c.turn-turn.ensures.rules (hull_standing c.args.at) c.requires c.letter_of.result
    (move_of c.turn-turn.result.now) c.turn-turn.ensures.value
    _ _ _ c.moved_hull.ensures
