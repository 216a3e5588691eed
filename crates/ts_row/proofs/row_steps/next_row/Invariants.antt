use Rattle.ts_row.specs.Rows.{hull_in}
use Rattle.ts_row.specs.Takings.{count_in, value_in}
use Rattle.ts_row.proofs.Steps.{IsFilled}
use Rattle.ts_row.proofs.row_steps.next_row.Given as goal

abbrev pub invariant-loop-q : goal.invariant-loop-q
invariant-loop-q g l =
    IsFilled g.row.N l.a (count_in l.values) (value_in l.values) (hull_in g.row.N l.before) (count_in l.next_values) (value_in l.next_values) l.q l.next
