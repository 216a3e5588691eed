use Rattle.std.proofs.Common.{length, refl}
use Rattle.ts_automaton.specs.Body.{move_of}
use Rattle.ts_row.specs.Takings.{count_in, value_in, taken_to, two_taken_to}
use Rattle.ts_row.proofs.Steps.{two_taken}
use Rattle.ts_row.proofs.row_steps.take_two.Goals as goal

pub returns-clause-taken : goal.returns-clause-taken
returns-clause-taken g c =
    let t = c.args.t.now in
    two_taken g.row.N (length c.args.next.now) (count_in t.next_values.now) (value_in t.next_values.now)
    (taken_to g.row.N t c.args.m.on (move_of c.args.m.turn.now)) (taken_to g.row.N t c.args.k.on (move_of c.args.k.turn.now))
    (two_taken_to g.row.N t c.args.m.on (move_of c.args.m.turn.now) c.args.k.on (move_of c.args.k.turn.now)) c.args.next.now c.take_move.new.next
    c.take_move-2.new.next c.take_move.ensures.row c.take_move.ensures.taken c.take_move-2.ensures.taken (λ x u. refl)
