use Rattle.std.proofs.Common.{refl}
use Rattle.ts_base.specs.declared.letter.Letter.TheVariants.{Less, Equal, Greater}
use Rattle.ts_hull.specs.Sealed.{move_at}
use Rattle.ts_bound.specs.Moves.{states_in}
use Rattle.ts_bound.proofs.SweptRows.{move_next, state_done}
use Rattle.ts_bound.proofs.moves.take_state.Goals as goal

pub take_move-requires-2-clause-next : goal.take_move-requires-2-clause-next
take_move-requires-2-clause-next c =
    let m = c.args.m.now in
    move_next (move_at m.automaton.now c.args.q Less) Less (states_in m) c.args.q m.values.domain.now m.before.now m.next_values.domain.now
    c.args.next.now c.take_move.new.next c.requires.next c.take_move.ensures

pub take_move-requires-3-clause-next : goal.take_move-requires-3-clause-next
take_move-requires-3-clause-next c =
    let m = c.args.m.now in
    move_next (move_at m.automaton.now c.args.q Equal) Equal (states_in m) c.args.q m.values.domain.now m.before.now m.next_values.domain.now
    c.take_move.new.next c.take_move-2.new.next
    (move_next (move_at m.automaton.now c.args.q Less) Less (states_in m) c.args.q m.values.domain.now m.before.now m.next_values.domain.now
    c.args.next.now c.take_move.new.next c.requires.next c.take_move.ensures)
    c.take_move-2.ensures

pub returns : goal.returns
returns c =
    let m = c.args.m.now in
    let a = m.automaton.now in
    state_done a m.values.domain.now m.before.now m.next_values.domain.now c.args.q (states_in m)
    (move_at a c.args.q Less) (move_at a c.args.q Equal) (move_at a c.args.q Greater)
    c.args.next.now c.take_move.new.next c.take_move-2.new.next c.take_move-3.new.next refl refl refl refl
    c.take_move.ensures c.take_move-2.ensures c.take_move-3.ensures
