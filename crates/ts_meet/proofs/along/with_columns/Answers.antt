use Rattle.std.proofs.Common.{◌≡◌, ◌+◌, ◌<◌, ◌≤◌, get_or, length, sym, ap, subst, ◌∙◌, arith, rules}
use Rattle.ts_base.specs.Spans.{span_hull}
use Rattle.ts_meet.specs.Along.{hull_over, pair_along, with_along}
use Rattle.ts_meet.specs.Peaks.{AreWatched, unwatched}
use Rattle.ts_meet.specs.Settled.{ArePlaces}
use Rattle.ts_meet.specs.Sides.{StandFor}
use Rattle.ts_meet.proofs.Asking.{until_within}
use Rattle.ts_meet.proofs.Places.{with_along_more, with_along_none, with_along_rises}
use Rattle.ts_meet.proofs.along.with_columns.Goals as goal

pub loop-r-init : goal.loop-r-init
loop-r-init g c p so_far h stands =
    let a = c.args in let values = c.args.values.now in
    subst (StandFor a.hull)
    (sym (with_along_none g.row.N p a.from values a.cells a.q a.left.now a.right.now so_far (length values))) stands

pub along_pair-pair-requires : goal.along_pair-pair-requires
along_pair-pair-requires g c =
    let below : c.loop-r.r < c.args.joints.now.right_states = omega (arith, c.loop-r-test.true, c.loop-r.auto.r-end) in
    let places = subst (ArePlaces g.row.N (c.args.from + length c.args.values.now)) (sym c.column-column.ensures) (c.requires.right.places c.loop-r.r below) in
    let has = c.requires in
    let n = g.row.N in let from = c.args.from in let count = length c.args.values.now in
    let second = subst (λ z. AreWatched n (get_or c.args.seconds.now c.loop-r.r unwatched) z from count) (sym c.column-column.ensures)
    (has.seconds c.loop-r.r below) in
    let first : AreWatched n c.over-first.result c.args.left.now from count = c.over-first.ensures in
    (search rules, (has.registers, (has.alone, (has.operator, (has.state, (below, (has.left, (places, (first, (second, has.values))))))))))

pub loop-r-preserved : goal.loop-r-preserved
loop-r-preserved g c p so_far h stands =
    let a = c.args in let values = c.args.values.now in let r = c.loop-r.r in
    let before = hull_over (with_along g.row.N p a.q a.left.now a.right.now a.from values a.cells r so_far) (length values) in
    subst (StandFor c.hull_of_both-all.result)
    (ap (λ z. span_hull before (pair_along g.row.N p a.q r a.left.now z a.from values a.cells (length values))) c.column-column.ensures
    ∙ sym (with_along_more g.row.N p a.from values a.cells a.q a.left.now a.right.now so_far (length values) r))
    (c.hull_of_both-all.ensures before _ (c.loop-r.invariant p so_far h stands) (c.along_pair-pair.ensures p h))

pub returns-then-is_enough : goal.returns-then-is_enough
returns-then-is_enough g c p so_far h stands =
    let a = c.args in let values = c.args.values.now in let r = c.loop-r.r in
    let before = hull_over (with_along g.row.N p a.q a.left.now a.right.now a.from values a.cells r so_far) (length values) in
    let part = hull_over (with_along g.row.N p a.q a.left.now a.right.now a.from values a.cells (r + 1) so_far) (length values) in
    let few : r + 1 ≤ length p.reverse.states = (let k = h.right_states in omega (arith, k, c.loop-r-test.true, c.loop-r.auto.r-end)) in
    let here : StandFor c.hull_of_both-all.result part =
    subst (StandFor c.hull_of_both-all.result)
    (ap (λ z. span_hull before (pair_along g.row.N p a.q r a.left.now z a.from values a.cells (length values))) c.column-column.ensures
    ∙ sym (with_along_more g.row.N p a.from values a.cells a.q a.left.now a.right.now so_far (length values) r))
    (c.hull_of_both-all.ensures before _ (c.loop-r.invariant p so_far h stands) (c.along_pair-pair.ensures p h)) in
    until_within a.enough part _
    (with_along_rises g.row.N p a.from values a.cells a.q a.left.now a.right.now so_far (length values) (r + 1) (length p.reverse.states) few)
    (c.is_enough.ensures c.if-is_enough.true part here)

pub returns : goal.returns
returns g c p so_far h stands =
    let a = c.args in let values = c.args.values.now in
    let e : c.loop-r.r ≡ length p.reverse.states = (let k = h.right_states in omega (arith, k, c.loop-r-test.false, c.loop-r.auto.r-end)) in
    subst (λ m. StandFor c.loop-r.all (hull_over (with_along g.row.N p a.q a.left.now a.right.now a.from values a.cells m so_far) (length values))) e
    (c.loop-r.invariant p so_far h stands)
