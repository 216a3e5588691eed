use Rattle.std.proofs.Common.{ap, ◌∙◌}
use Rattle.ts_automaton.specs.Body.{move_of, move_on}
use Rattle.ts_automaton.proofs.StepLaws.{next_exists}
use Rattle.ts_hull.specs.Sealed.{move_at}
use Rattle.ts_bound.proofs.moves.turn.Goals as goal

pub returns-clause-value : goal.returns-clause-value
unfolding move_at
returns-clause-value c = c.turn_on.ensures ∙ ap (move_on c.args.l) c.state.ensures.value

pub returns-clause-exists : goal.returns-clause-exists
returns-clause-exists c =
    next_exists c.args.a.now c.state.ensures.rules c.args.q c.args.l c.requires (move_of c.turn_on.result.now)
    (c.turn_on.ensures ∙ ap (move_on c.args.l) c.state.ensures.value)
