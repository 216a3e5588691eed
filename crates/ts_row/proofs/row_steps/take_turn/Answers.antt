use Rattle.ts_automaton.specs.Body.{move_of}
use Rattle.ts_row.specs.Plans.{is_equal}
use Rattle.ts_row.proofs.Equals.{moved_read}
use Rattle.ts_row.proofs.Steps.{moved_from}
use Rattle.ts_sweep.specs.Here.{here_move}
use Rattle.ts_row.proofs.row_steps.take_turn.Goals as goal

pub returns-then-take_shape-clause-moved : goal.returns-then-take_shape-clause-moved
returns-then-take_shape-clause-moved g c =
    let m = move_of c.args.m.turn.now in
    moved_read _ c.args.t.now c.args.m.on m _ _
    (c.take_shape.ensures.taken c.if-take_shape.true (here_move (is_equal c.args.m.on.letter) m) c.requires.plan.shape)

pub returns-clause-moved : goal.returns-clause-moved
returns-clause-moved g c =
    moved_from _ c.args.t.now c.args.m.on (move_of c.args.m.turn.now) _ _ _ (c.take_shape.ensures.kept c.if-take_shape.false)
    c.take_other.ensures.moved
