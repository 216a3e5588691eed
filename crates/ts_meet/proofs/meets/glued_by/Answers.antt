use Rattle.std.proofs.Common.{◌≡◌, sym, ap, subst, ◌∙◌, length, arith}
use Rattle.std.specs.Prelude.{fold}
use Rattle.ts_base.specs.Spans.{none_span, span_hull}
use Rattle.ts_meet.specs.Meets.{hull_of_spans, spans_between, spans_with}
use Rattle.ts_meet.specs.Sides.{StandFor}
use Rattle.ts_meet.proofs.Meeting.{between_more, between_none, standing_there}
use Rattle.ts_meet.proofs.meets.glued_by.Goals as goal

pub loop-q-init : goal.loop-q-init
loop-q-init g c p h =
    let at = c.args.spot in
    subst (λ z. StandFor c.nothing-hull.result (hull_of_spans z))
    (sym (between_none g.row.N p c.args.left.now c.args.right.now at.place at.value at.cells (length p.reverse.states))) c.nothing-hull.ensures

pub loop-q-preserved : goal.loop-q-preserved
loop-q-preserved g c p h =
    let at = c.args.spot in let left = c.args.left.now in let right = c.args.right.now in let q = c.loop-q.q in
    let states = length p.reverse.states in
    let before = hull_of_spans (spans_between g.row.N p left right at.place at.value at.cells states q) in
    subst (StandFor c.with_reached-hull.result)
    (ap (λ z. fold span_hull before (spans_with g.row.N p z right at.place at.value at.cells states))
    (standing_there g.row.N left q at.place c.hull.result.now c.hull.ensures)
    ∙ sym (between_more g.row.N p left right at.place at.value at.cells states q none_span))
    (c.with_reached-hull.ensures p before h (c.loop-q.invariant p h))

pub returns : goal.returns
returns g c p h =
    let at = c.args.spot in
    let e : c.loop-q.q ≡ length p.forward.states = (let k = h.left_states in omega (arith, k, c.loop-q-test.false, c.loop-q.auto.q-end)) in
    c.span_of.ensures _
    (subst
    (λ m. StandFor c.loop-q.hull
    (hull_of_spans (spans_between g.row.N p c.args.left.now c.args.right.now at.place at.value at.cells (length p.reverse.states) m))) e
    (c.loop-q.invariant p h))
