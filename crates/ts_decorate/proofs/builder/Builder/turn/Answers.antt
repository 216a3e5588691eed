use Rattle.ts_automaton.specs.Formula.{formula}
use Rattle.ts_decorate.proofs.States.{turn_is}
use Rattle.ts_decorate.proofs.builder.Builder.turn.Goals as goal

pub returns : goal.returns
returns c =
    let builder = c.args.self.now in
    let whole = c.whole-whole in
    let less = c.less-less in
    turn_is builder.a builder.aggregator builder.feature c.args.arrow whole.result.row less.result.row whole.result.idle less.result.idle
    (formula c.less_range.result) (formula c.less_cells.result) (formula c.less_cells-2.result)
    (formula c.in_ok-range_after.field-0) (formula c.in_ok-range_after-2.field-0) (formula c.in_ok-cells_after.field-0)
    (formula c.in_ok-cells_after-2.field-0) (formula c.in_ok-ranges_after.field-0) whole.ensures.row whole.ensures.idle less.ensures.row less.ensures.idle
    c.less_range.ensures c.less_cells.ensures c.less_cells-2.ensures
    c.in_ok-range_after.ensures c.in_ok-range_after-2.ensures c.in_ok-cells_after.ensures c.in_ok-cells_after-2.ensures c.in_ok-ranges_after.ensures
