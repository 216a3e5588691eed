use Rattle.std.proofs.Common.{◌<◌, sym, subst, length, arith, rules}
use Rattle.ts_meet.specs.Ends.{needed_ends}
use Rattle.ts_meet.specs.Settled.{ArePlaces, IsSettledBy}
use Rattle.ts_meet.proofs.Asking.{and_between, none_between}
use Rattle.ts_meet.proofs.settled.settled_with.Goals as goal

pub loop-r-init : goal.loop-r-init
loop-r-init g c = (omega arith, c.requires.order, λ p h. none_between _ c.args.from)

pub settled_between-at-requires : goal.settled_between-at-requires
settled_between-at-requires g c =
    let below : c.loop-r.r < c.args.joints.now.right_states = omega (arith, c.loop-r-test.true, c.loop-r.auto.r-end) in
    let places = subst (ArePlaces g.row.N c.args.to) (sym c.column.ensures) (c.requires.right.places c.loop-r.r below) in
    let given = c.requires in
    (search rules, (given.registers, (given.lanes, (given.alone, (given.state, (below, (given.left, (places, c.loop-r.invariant.1))))))))

pub loop-r-preserved : goal.loop-r-preserved
loop-r-preserved g c =
    let left = c.args.left.now in let r = c.loop-r.r in
    let below : r < c.args.joints.now.right_states = omega (arith, c.loop-r-test.true, c.loop-r.auto.r-end) in
    let told = c.settled_between-at.ensures in let before = c.loop-r.invariant in
    let from = told.from in let so_far = before.0 in (
      omega (arith, so_far, from),
      told.to,
      λ p h. and_between _ c.args.from c.loop-r.at c.settled_between-at.result (before.2 p h)
          (λ i first last. let inside : r < length p.reverse.states = (let k = h.right_states in omega (arith, k, below)) in
          (r, inside, subst (λ z. IsSettledBy g.row.N (needed_ends c.args.needed) p c.args.q r left z c.args.cells i) c.column.ensures (told.settled p h i first last))),
    )
