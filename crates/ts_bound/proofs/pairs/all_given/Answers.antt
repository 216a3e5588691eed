use Rattle.std.proofs.Common.{ap, arith, pos, get_or}
use Rattle.ts_hull.specs.Hulls.{hull_of}
use Rattle.ts_hull.specs.Sealed.{move_at}
use Rattle.ts_bound.specs.Moves.{states_in}
use Rattle.ts_bound.proofs.PutLaws.{entry_begun, entry_more, entry_done}
use Rattle.ts_bound.proofs.pairs.all_given.Goals as goal

pub loop-i-init : goal.loop-i-init
loop-i-init c =
    let m = c.args.m.now in
    entry_begun (move_at m.automaton.now c.args.q c.args.l) c.args.l (states_in m) c.args.q m.values.domain.now m.before.now
    (get_or m.next_values.domain.now c.args.j (pos 0)) _ (ap hull_of c.none-all.ensures)

pub loop-i-preserved : goal.loop-i-preserved
loop-i-preserved c =
    let m = c.args.m.now in
    entry_more (move_at m.automaton.now c.args.q c.args.l) c.args.l (states_in m) c.args.q m.values.domain.now m.before.now
    (get_or m.next_values.domain.now c.args.j (pos 0)) c.loop-i.i c.loop-i.all c.given.result c.hull_of_both-all.result
    c.loop-i.invariant c.given.ensures c.hull_of_both-all.ensures

pub returns : goal.returns
returns c =
    let m = c.args.m.now in
    entry_done (move_at m.automaton.now c.args.q c.args.l) c.args.l (states_in m) c.args.q m.values.domain.now m.before.now
    (get_or m.next_values.domain.now c.args.j (pos 0)) c.loop-i.i c.loop-i.all
    (omega (arith, c.loop-i-test.false, c.loop-i.auto.i-end, m.values.counted)) c.loop-i.invariant
