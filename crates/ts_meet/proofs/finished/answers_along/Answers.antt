use Rattle.std.proofs.Common.{◌≡◌, ◌+◌, ◌<◌, sym, ap, subst, ◌∙◌, arith, rules}
use Rattle.ts_base.specs.Spans.{span_hull}
use Rattle.ts_row.specs.Rows.{lanes_of}
use Rattle.ts_sweep.specs.Packed.{IsPacked}
use Rattle.ts_sweep.specs.Sides.{lane_count, sides}
use Rattle.ts_meet.specs.Along.{column_finish}
use Rattle.ts_meet.specs.Meets.{finish_seen}
use Rattle.ts_meet.specs.Settled.{with_hull}
use Rattle.ts_meet.specs.Sides.{StandFor}
use Rattle.ts_meet.proofs.Asking.{read_there}
use Rattle.ts_meet.proofs.Places.{column_more, column_none}
use Rattle.ts_meet.proofs.finished.answers_along.Goals as goal

pub loop-i-init : goal.loop-i-init
loop-i-init g c q =
    subst (StandFor c.nothing-hull.result) (sym (column_none g.row.N c.args.a.now c.args.from c.args.n q c.args.hulls.now)) c.nothing-hull.ensures

pub with_answer-hull-requires : goal.with_answer-hull-requires
with_answer-hull-requires g c =
    let n = g.row.N in let i = c.loop-i.i in let at = c.args.from + i in let given = c.requires in let before = c.loop-i-test.true in
    let place : at < c.args.from + c.args.count = omega (arith, before) in
    let here = subst (λ z. IsPacked (lane_count n) (lanes_of n z))
    (sym (read_there n c.args.hulls.now at _ c.index-hulls-from.is (let e = given.hulls.0 in omega (arith, e, place)))) (given.hulls.1 at place) in
    (search rules, (given.registers, (given.alone, (given.apart, (given.worth, (given.rules, (given.finish, here)))))))

pub loop-i-preserved : goal.loop-i-preserved
loop-i-preserved g c q =
    let n = g.row.N in let a = c.args in let i = c.loop-i.i in let at = a.from + i in let before = c.loop-i-test.true in
    let place : at < a.from + a.count = omega (arith, before) in
    let so_far = column_finish n a.a.now q a.hulls.now a.from a.n i in
    subst (StandFor c.with_answer-hull.result)
    (ap (λ z. span_hull so_far (finish_seen (sides n) a.a.now (with_hull n q z) a.n))
    (read_there n a.hulls.now at _ c.index-hulls-from.is (let e = c.requires.hulls.0 in omega (arith, e, place)))
    ∙ sym (column_more n a.a.now a.from a.n q a.hulls.now i))
    (c.with_answer-hull.ensures q so_far (c.loop-i.invariant q))

pub returns : goal.returns
returns g c q =
    let e : c.loop-i.i ≡ c.args.count = omega (arith, c.loop-i-test.false, c.loop-i.auto.i-end) in
    subst (λ m. StandFor c.loop-i.hull (column_finish g.row.N c.args.a.now q c.args.hulls.now c.args.from c.args.n m)) e (c.loop-i.invariant q)
