use Rattle.std.proofs.Common.{rules, ◌≡◌, ◌∙◌, sym, subst}
use Rattle.ts_automaton.specs.AutomatonRun.{AreCellValues}
use Rattle.ts_machine_tests.proofs.Cells.{cells_of}
use Rattle.ts_machine_tests.proofs.spared.row_holds.Goals as goal

pub cells_spared-requires-clause-values : goal.cells_spared-requires-clause-values
cells_spared-requires-clause-values c =
    let same : c.in_ok-series.series.items ≡ c.args.values.now = search rules in
    subst AreCellValues (sym same) (cells_of c.args.values.now (sym c.within.ensures ∙ c.if-not-within.false))
