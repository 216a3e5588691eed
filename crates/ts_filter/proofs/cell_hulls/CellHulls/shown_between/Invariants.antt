use Rattle.std.proofs.Common.{drop}
use Rattle.std.specs.Prelude.{◌≡◌, ◌<◌}
use Rattle.ts_filter.specs.Boxes.{values_at}
use Rattle.ts_filter.proofs.cell_hulls.CellHulls.shown_between.Given as goal

abbrev pub invariant-loop-v : goal.invariant-loop-v
invariant-loop-v l = (l.i < l.to) × (l.v-iterator ≡ drop l.i (values_at l.self.cell l.self.cells))
