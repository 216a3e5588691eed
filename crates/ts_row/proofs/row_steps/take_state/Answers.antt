use Rattle.ts_row.specs.Rows.{nothing, lanes_of}
use Rattle.ts_row.specs.Takings.{count_in, value_in}
use Rattle.ts_sweep.specs.Columns.{hull_at}
use Rattle.ts_row.proofs.Reached.{taken_nothing}
use Rattle.ts_row.proofs.row_steps.take_state.Goals as goal

pub returns-then-not-is_reached-clause-taken : goal.returns-then-not-is_reached-clause-taken
returns-then-not-is_reached-clause-taken g c =
    taken_nothing c.args.a.now c.args.q g.row.N (count_in c.args.values.now) (value_in c.args.values.now)
    (hull_at (lanes_of g.row.N) (nothing g.row.N) c.args.column.now)
    _ (count_in c.args.next_values.now) (value_in c.args.next_values.now) c.args.next.now c.requires.registers c.requires.row
    (c.is_reached.ensures c.if-not-is_reached.true)
