use Rattle.std.proofs.Common.{ap, ◌∙◌, arith, pos, get_or, sym}
use Rattle.ts_automaton.specs.Body.{move_of}
use Rattle.ts_hull.specs.Sweeps.{step_place, move_entry}
use Rattle.ts_bound.specs.Moves.{states_in}
use Rattle.ts_bound.proofs.PutLaws.{puts_begun, puts_more_as, puts_done}
use Rattle.ts_bound.proofs.pairs.pair_move.Goals as goal

pub loop-k-init : goal.loop-k-init
loop-k-init c = puts_begun _ _ _ _ _

pub loop-k-preserved : goal.loop-k-preserved
loop-k-preserved c =
    let m = c.args.m.now in
    puts_more_as (move_of c.args.t.now) c.args.l (states_in m) c.states-states.result c.args.q m.values.domain.now m.before.now m.next_values.domain.now
    c.args.next.now c.loop-k.next c.join_at.new.next c.loop-k.k c.step_place-j.result c.all_given.result
    c.states-states.ensures.count (c.step_place-j.ensures.value ∙ ap (λ z. step_place c.args.l z c.loop-k.k) m.next_values.counted)
    (c.all_given.ensures ∙ ap (λ z. move_entry z c.args.l (states_in m) c.args.q m.values.domain.now m.before.now
    (get_or m.next_values.domain.now c.step_place-j.result (pos 0))) (sym c.requires.turn))
    c.loop-k.invariant c.join_at.ensures

pub returns : goal.returns
returns c =
    let m = c.args.m.now in
    puts_done (move_of c.args.t.now) c.args.l (states_in m) c.args.q m.values.domain.now m.before.now m.next_values.domain.now c.args.next.now
    c.loop-k.next c.loop-k.k (omega (arith, c.loop-k-test.false, c.loop-k.auto.k-end, m.next_values.counted)) c.loop-k.invariant
