use Rattle.std.proofs.Common.{subst}
use Rattle.ts_filter.specs.CellHulls.{AtCell, HasHulls}
use Rattle.ts_filter.proofs.cell_hulls.CellHulls.values.Goals as goal

pub returns-clause-there : goal.returns-clause-there
returns-clause-there c = subst (λ (x : AtCell). HasHulls x.machine x.cell x.cells) c.self.view_is c.self.invariant.there
