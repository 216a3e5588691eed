use Rattle.std.proofs.Common.{◌<◌, sym, subst, length, arith, rules}
use Rattle.ts_meet.specs.Ends.{needed_ends}
use Rattle.ts_meet.specs.Settled.{ArePlaces, IsSettledBySome}
use Rattle.ts_meet.proofs.Asking.{and_between, none_between}
use Rattle.ts_meet.proofs.settled.settled_in.Goals as goal

pub loop-q-init : goal.loop-q-init
loop-q-init g c = (omega arith, c.requires.order, λ p h. none_between _ c.args.from)

pub settled_with-at-requires : goal.settled_with-at-requires
settled_with-at-requires g c =
    let below : c.loop-q.q < c.args.joints.now.left_states = omega (arith, c.loop-q-test.true, c.loop-q.auto.q-end) in
    let places = subst (ArePlaces g.row.N c.args.to) (sym c.column.ensures) (c.requires.left.places c.loop-q.q below) in
    (search rules, (search rules, (c.requires.registers, (c.requires.lanes, (c.requires.alone, (below, (places, (c.requires.right, c.loop-q.invariant.1))))))))

pub loop-q-preserved : goal.loop-q-preserved
loop-q-preserved g c =
    let right = c.args.right.now in let q = c.loop-q.q in
    let below : q < c.args.joints.now.left_states = omega (arith, c.loop-q-test.true, c.loop-q.auto.q-end) in
    let told = c.settled_with-at.ensures in let before = c.loop-q.invariant in
    let from = told.from in let so_far = before.0 in (
      omega (arith, so_far, from),
      told.to,
      λ p h. and_between _ c.args.from c.loop-q.at c.settled_with-at.result (before.2 p h)
          (λ i first last. let inside : q < length p.forward.states = (let k = h.left_states in omega (arith, k, below)) in
          (q, inside, subst (λ z. IsSettledBySome g.row.N (needed_ends c.args.needed) p q z right c.args.cells i) c.column.ensures (told.settled p h i first last))),
    )
