use Rattle.ts_automaton.specs.Body.{move_of}
use Rattle.ts_row.proofs.Steps.{moved_from}
use Rattle.ts_row.proofs.row_steps.take_other.Goals as goal

pub returns-clause-moved : goal.returns-clause-moved
returns-clause-moved g c =
    moved_from _ c.args.t.now c.args.on (move_of c.args.turn.now) _ _ _ (c.take_tree.ensures.kept c.if-take_tree.false)
    c.take_by_pairs.ensures.moved
