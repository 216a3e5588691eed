use Rattle.std.proofs.Common.{length, subst, ◌∙◌, arith}
use Rattle.ts_row.specs.Rows.{HasTaken, hull_in, lanes_of, nothing, seen_gives}
use Rattle.ts_row.specs.Takings.{count_in, value_in}
use Rattle.ts_row.proofs.Steps.{filled_none, filled_more, filled_all}
use Rattle.ts_row.proofs.row_steps.next_row.Goals as goal
use Rattle.ts_sweep.specs.Columns.{hull_at}

pub loop-q-init : goal.loop-q-init
loop-q-init g c =
    let count = c.states.ensures.count in
    let is = c.in_ok-clear.ensures in
    filled_none g.row.N c.args.a.now (count_in c.args.values) (value_in c.args.values) (hull_in g.row.N c.args.before.now) (count_in c.args.next_values)
    (value_in c.args.next_values) c.clear.new.self c.requires.registers (is.len ∙ count)
    (λ q lt. is.columns q (omega (arith, lt, count)))

pub loop-q-preserved : goal.loop-q-preserved
loop-q-preserved g c =
    let k = count_in c.args.next_values in
    let w = value_in c.args.next_values in
    filled_more g.row.N c.args.a.now (count_in c.args.values) (value_in c.args.values) (hull_in g.row.N c.args.before.now) k w c.loop-q.q c.loop-q.next
    c.take_state.new.next c.loop-q.invariant c.take_state.ensures.row
    (subst (λ z. HasTaken g.row.N (length c.loop-q.next) k w
    (seen_gives g.row.N c.args.a.now c.loop-q.q (count_in c.args.values) (value_in c.args.values)
    (hull_at (lanes_of g.row.N) (nothing g.row.N) z)) c.loop-q.next
    c.take_state.new.next) c.column.ensures c.take_state.ensures.taken)

pub returns : goal.returns
returns g c =
    filled_all g.row.N c.args.a.now (count_in c.args.values) (value_in c.args.values) (hull_in g.row.N c.args.before.now) (count_in c.args.next_values)
    (value_in c.args.next_values) c.loop-q.q c.loop-q.next c.loop-q.invariant
    (omega (arith, c.loop-q-test.false, c.loop-q.auto.q-end, c.states-q-end.ensures.count))
