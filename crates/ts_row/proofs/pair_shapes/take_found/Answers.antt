use Rattle.ts_automaton.specs.Body.{move_of}
use Rattle.ts_row.proofs.Steps.{moved_from}
use Rattle.ts_row.proofs.pair_shapes.take_found.Goals as goal

pub returns-clause-moved : goal.returns-clause-moved
returns-clause-moved g c =
    moved_from _ c.args.t.now c.args.on (move_of c.args.by.turn.now) _ _ _ (c.sweep_found.ensures.kept c.if-sweep_found.false) c.emit.ensures.moved
