use Rattle.std.proofs.Common.{refl, sym, ap, ◌∙◌, true}
use Rattle.ts_automaton.specs.Body.{move_of}
use Rattle.ts_sweep.specs.Moves.{of_width}
use Rattle.ts_sweep.proofs.Widths.{width_cut}
use Rattle.ts_bound.specs.Moves.{states_in}
use Rattle.ts_bound.proofs.PackableLaws.{row_packable}
use Rattle.ts_bound.proofs.PutLaws.{swept_move}
use Rattle.ts_bound.proofs.moves.sweep_move.Goals as goal

pub returns-clause-taken : goal.returns-clause-taken
returns-clause-taken c e =
    let m = c.args.m.now in
    let move = move_of c.args.t.now in
    let cut = width_cut true move refl ∙ ap (of_width true) (sym c.in-Some.ensures.1) in
    swept_move move c.args.l c.states-states.result (states_in m) c.args.q m.values.count m.next_values.count
    m.values.domain.now m.before.now m.next_values.domain.now c.args.next.now c.take_row.new.next
    c.states-states.ensures.count m.values.counted m.next_values.counted
    (λ h is. c.take_row.ensures.taken e move h refl cut c.in-Some.ensures.0 is)

pub take_row-requires-clause-packable : goal.take_row-requires-clause-packable
take_row-requires-clause-packable c = row_packable c.args.m.now.before.now (c.args.m.now.small c.if-not-m.false)
