use Rattle.std.proofs.Common.{◌≡◌, ◌+◌, ◌<◌, length, sym, ap, subst, ◌∙◌, arith, rules}
use Rattle.ts_base.specs.Spans.{span_hull}
use Rattle.ts_meet.specs.Along.{column_finish, finishes_along, hull_over}
use Rattle.ts_meet.specs.Settled.{ArePlaces}
use Rattle.ts_meet.specs.Sides.{StandFor}
use Rattle.ts_meet.proofs.Places.{finishes_along_more, finishes_along_none}
use Rattle.ts_meet.proofs.finished.finish_along.Goals as goal

pub loop-q-init : goal.loop-q-init
loop-q-init g c =
    subst (StandFor c.nothing-hull.result)
    (sym (finishes_along_none g.row.N c.args.a.now c.args.from c.args.n c.args.row.now c.args.count)) c.nothing-hull.ensures

pub column_finish-column-requires : goal.column_finish-column-requires
column_finish-column-requires g c =
    let below : c.loop-q.q < length c.args.a.now.states = omega (arith, c.loop-q-test.true, c.states-q-end.ensures.count) in
    let places = subst (ArePlaces g.row.N (c.args.from + c.args.count)) (sym c.column.ensures) (c.requires.row.places c.loop-q.q below) in
    let given = c.requires in
    (search rules, (given.registers, (given.lanes, (given.alone, places))))

pub loop-q-preserved : goal.loop-q-preserved
loop-q-preserved g c =
    let a = c.args in let q = c.loop-q.q in
    let before = hull_over (finishes_along g.row.N a.a.now a.row.now a.from a.n q) a.count in
    subst (StandFor c.hull_of_both-hull.result)
    (ap (λ z. span_hull before (column_finish g.row.N a.a.now q z a.from a.n a.count)) c.column.ensures
    ∙ sym (finishes_along_more g.row.N a.a.now a.from a.n a.row.now a.count q))
    (c.hull_of_both-hull.ensures before _ c.loop-q.invariant (c.column_finish-column.ensures q))

pub returns : goal.returns
returns g c =
    let a = c.args in
    let e : c.loop-q.q ≡ length a.a.now.states = omega (arith, c.loop-q-test.false, c.loop-q.auto.q-end, c.states-q-end.ensures.count) in
    c.span_of.ensures _ (subst (λ m. StandFor c.loop-q.hull (hull_over (finishes_along g.row.N a.a.now a.row.now a.from a.n m) a.count)) e c.loop-q.invariant)
