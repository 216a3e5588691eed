use Rattle.std.proofs.Common.{◌≡◌, sym, ap, subst, ◌∙◌, length, arith}
use Rattle.ts_base.specs.Spans.{none_span, span_hull}
use Rattle.ts_sweep.specs.Sides.{sides}
use Rattle.ts_meet.specs.Meets.{finish_seen, finishes_in, hull_of_spans}
use Rattle.ts_meet.specs.Sides.{StandFor}
use Rattle.ts_meet.proofs.Meeting.{finishes_more, finishes_none, standing_there}
use Rattle.ts_meet.proofs.meets.finish_at.Goals as goal

pub loop-q-init : goal.loop-q-init
loop-q-init g c =
    subst (λ z. StandFor c.nothing-hull.result (hull_of_spans z)) (sym (finishes_none g.row.N c.args.a.now c.args.row.now c.args.i c.args.n))
    c.nothing-hull.ensures

pub loop-q-preserved : goal.loop-q-preserved
loop-q-preserved g c =
    let a = c.args.a.now in let row = c.args.row.now in let q = c.loop-q.q in
    let before = hull_of_spans (finishes_in g.row.N a row c.args.i c.args.n q) in
    subst (StandFor c.with_finish-hull.result)
    (ap (λ z. span_hull before (finish_seen (sides g.row.N) a z c.args.n))
    (standing_there g.row.N row q c.args.i c.hull.result.now c.hull.ensures)
    ∙ sym (finishes_more g.row.N a row c.args.i c.args.n q none_span))
    (c.with_finish-hull.ensures q before c.loop-q.invariant)

pub returns : goal.returns
returns g c =
    let e : c.loop-q.q ≡ length c.args.a.now.states = omega (arith, c.loop-q-test.false, c.loop-q.auto.q-end, c.states-q-end.ensures.count) in
    c.span_of.ensures _
    (subst (λ m. StandFor c.loop-q.hull (hull_of_spans (finishes_in g.row.N c.args.a.now c.args.row.now c.args.i c.args.n m))) e c.loop-q.invariant)
