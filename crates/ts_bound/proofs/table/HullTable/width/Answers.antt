use Rattle.std.proofs.Common.{arith}
use Rattle.ts_bound.proofs.RowLaws.{bounds_rise, one_row}
use Rattle.ts_bound.proofs.table.HullTable.width.Goals as goal

pub overflow_sub-result : goal.overflow_sub-result
overflow_sub-result c =
    bounds_rise _ c.args.k _ _ c.requires.first c.bounds-from.ensures.from (one_row _ c.args.k _ c.requires.first c.bounds-from.ensures.to)

pub returns-clause-width : goal.returns-clause-width
returns-clause-width c =
    let to = one_row _ c.args.k _ c.requires.first c.bounds-from.ensures.to in
    let up = bounds_rise _ c.args.k _ _ c.requires.first c.bounds-from.ensures.from to in omega (arith, up, to, c.bounds-from.ensures.from)
