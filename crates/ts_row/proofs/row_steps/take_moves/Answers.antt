use Rattle.std.proofs.Common.{length}
use Rattle.ts_automaton.specs.Body.{move_of}
use Rattle.ts_row.specs.Takings.{count_in}
use Rattle.ts_row.proofs.Moves.{taken_with_less, taken_with_greater, taken_each}
use Rattle.ts_row.proofs.row_steps.take_moves.Goals as goal

pub returns-in-WithLess-clause-taken : goal.returns-in-WithLess-clause-taken
returns-in-WithLess-clause-taken g c =
    let m = c.planned_move-less in
    let k = c.planned_move-greater in
    taken_with_less g.row.N (length c.args.next.now) (count_in c.args.t.now.next_values.now) c.args.a.now c.args.q c.args.t.now m.result.on k.result.on
    (move_of m.result.turn.now) (move_of k.result.turn.now) c.args.next.now c.take_two.new.next m.ensures.value m.ensures.letter m.ensures.twin
    k.ensures.value k.ensures.letter k.ensures.twin (c.requires.plan.with_less c.in-WithLess.is) c.take_two.ensures.taken

pub returns-in-WithGreater-clause-taken : goal.returns-in-WithGreater-clause-taken
returns-in-WithGreater-clause-taken g c =
    let m = c.planned_move-less-in-WithGreater in
    let k = c.planned_move-greater-in-WithGreater in
    taken_with_greater g.row.N (length c.args.next.now) (count_in c.args.t.now.next_values.now) c.args.a.now c.args.q c.args.t.now m.result.on k.result.on
    (move_of m.result.turn.now) (move_of k.result.turn.now) c.args.next.now c.take_two-in-WithGreater.new.next m.ensures.value m.ensures.letter
    m.ensures.twin k.ensures.value k.ensures.letter k.ensures.twin (c.requires.plan.with_greater c.in-WithGreater.is) c.take_two-in-WithGreater.ensures.taken

pub returns-in-Alone-clause-taken : goal.returns-in-Alone-clause-taken
returns-in-Alone-clause-taken g c =
    let m = c.planned_move-less-in-Alone in
    let e = c.planned_move-equal in
    let k = c.planned_move-greater-in-Alone in
    taken_each g.row.N (length c.args.next.now) (count_in c.args.t.now.next_values.now) c.args.a.now c.args.q c.args.t.now m.result.on e.result.on k.result.on
    (move_of m.result.turn.now) (move_of e.result.turn.now) (move_of k.result.turn.now) c.args.next.now c.take_two-in-Alone.new.next c.take_move.new.next
    m.ensures.value m.ensures.letter m.ensures.twin e.ensures.value e.ensures.letter e.ensures.twin k.ensures.value k.ensures.letter k.ensures.twin
    c.take_two-in-Alone.ensures.row c.take_two-in-Alone.ensures.taken c.take_move.ensures.taken
