use Rattle.std.proofs.Common.{ap, ◌∙◌, length}
use Rattle.std.specs.Prelude.{slice_range}
use Rattle.ts_bound.proofs.RowLaws.{bounds_rise, bounds_inside, row_read, one_row}
use Rattle.ts_bound.proofs.table.HullTable.row.Goals as goal

pub part-requires-clause-order : goal.part-requires-clause-order
part-requires-clause-order c =
    bounds_rise _ c.args.k _ _ c.requires.0 c.bounds-from.ensures.from (one_row _ c.args.k _ c.requires.0 c.bounds-from.ensures.to)

pub part-requires-clause-inside : goal.part-requires-clause-inside
part-requires-clause-inside c =
    bounds_inside c.self.inside.starts.items c.self.inside.hulls.items _ c.args.k _ _ c.self.invariant c.self.view_is
    (one_row _ c.args.k _ c.requires.0 c.bounds-from.ensures.to) (ap length c.deref.ensures.value)

pub returns : goal.returns
returns c =
    row_read c.self.inside.starts.items c.self.inside.hulls.items _ _ c.args.k _ _ c.self.invariant c.self.view_is c.requires c.bounds-from.ensures.from
    (one_row _ c.args.k _ c.requires.0 c.bounds-from.ensures.to)
    (c.part.ensures ∙ ap (λ l. slice_range l c.bounds-from.result.0 c.bounds-from.result.1) c.deref.ensures.value)
