use Rattle.std.proofs.Common.{◌≡◌, ◌+◌, ◌<◌, ◌≤◌, ℕ, [], get_or, length, sym, ap, subst, ◌∙◌, arith, rules}
use Rattle.std.specs.Prelude.{None}
use Rattle.ts_meet.specs.Along.{between_along, hull_over, with_along}
use Rattle.ts_meet.specs.Asked.{IsHullUntil}
use Rattle.ts_meet.specs.Peaks.{AreWatched, unwatched}
use Rattle.ts_meet.specs.Settled.{ArePlaces}
use Rattle.ts_meet.specs.Sides.{StandFor}
use Rattle.ts_meet.proofs.Asking.{until_within}
use Rattle.ts_meet.proofs.Places.{between_along_more, between_along_none, between_along_rises}
use Rattle.ts_meet.proofs.along.along_by.Goals as goal

pub loop-q-init : goal.loop-q-init
loop-q-init g c p h =
    let a = c.args in let values = c.args.values.now in
    subst (StandFor c.nothing-hull.result)
    (sym (between_along_none g.row.N p a.from values a.cells a.left.now a.right.now (length values))) c.nothing-hull.ensures

pub with_columns-requires : goal.with_columns-requires
with_columns-requires g c =
    let below : c.loop-q.q < c.args.joints.now.left_states = omega (arith, c.loop-q-test.true, c.loop-q.auto.q-end) in
    let places = subst (ArePlaces g.row.N (c.args.from + length c.args.values.now)) (sym c.column-column.ensures) (c.requires.left.places c.loop-q.q below) in
    let given = c.requires in
    let seconds : (r : ℕ) → r < c.args.joints.now.right_states → AreWatched g.row.N
    (get_or c.watched_in-seconds.result r unwatched) (get_or c.args.right.now r []) c.args.from (length c.args.values.now) =
    λ r l. c.watched_in-seconds.ensures r l in
    (search rules, (search rules, (given.registers, (given.alone, (given.operator, (below, (places, (given.right, (seconds, given.values)))))))))

pub loop-q-preserved : goal.loop-q-preserved
loop-q-preserved g c p h =
    let a = c.args in let values = c.args.values.now in let q = c.loop-q.q in
    let before = between_along g.row.N p a.left.now a.right.now a.from values a.cells q in
    subst (StandFor c.in-Some.more)
    (ap (λ z. hull_over (with_along g.row.N p q z a.right.now a.from values a.cells (length p.reverse.states) before) (length values)) c.column-column.ensures
    ∙ sym (between_along_more g.row.N p a.from values a.cells a.left.now a.right.now (length values) q))
    (c.in-Some.ensures p before h (c.loop-q.invariant p h))

pub returns-in-None : goal.returns-in-None
returns-in-None g c p h =
    let a = c.args in let values = c.args.values.now in let q = c.loop-q.q in let states = length p.reverse.states in
    let before = between_along g.row.N p a.left.now a.right.now a.from values a.cells q in
    let part = hull_over (between_along g.row.N p a.left.now a.right.now a.from values a.cells (q + 1)) (length values) in
    let few : q + 1 ≤ length p.forward.states = (let k = h.left_states in omega (arith, k, c.loop-q-test.true, c.loop-q.auto.q-end)) in
    until_within a.enough part _
    (between_along_rises g.row.N p a.from values a.cells a.left.now a.right.now (length values) (q + 1) (length p.forward.states) few)
    (subst (λ s. IsHullUntil a.enough s None)
    (ap (λ z. hull_over (with_along g.row.N p q z a.right.now a.from values a.cells states before) (length values)) c.column-column.ensures
    ∙ sym (between_along_more g.row.N p a.from values a.cells a.left.now a.right.now (length values) q))
    (c.in-None.ensures p before h (c.loop-q.invariant p h)))

pub returns : goal.returns
returns g c p h =
    let a = c.args in let values = c.args.values.now in
    let e : c.loop-q.q ≡ length p.forward.states = (let k = h.left_states in omega (arith, k, c.loop-q-test.false, c.loop-q.auto.q-end)) in
    subst (λ m. StandFor c.loop-q.hull (hull_over (between_along g.row.N p a.left.now a.right.now a.from values a.cells m) (length values))) e
    (c.loop-q.invariant p h)
