use Rattle.std.specs.Prelude.{List, length}
use Rattle.ts_filter.specs.KeptCells.{AreKept, AreSized}
use Rattle.ts_filter.specs.RefutedWorseDrop.{Spans}
use Rattle.ts_model.specs.declared.model.Require.{Require}
use Rattle.ts_machine_tests.proofs.told.kept_cells.singles.Given as goal

abbrev pub invariant-loop-before : goal.invariant-loop-before
invariant-loop-before l = record {
  sizes : AreSized 1 (length l.cells.present) l.kept;
  kept : (requirements : List Require) (s : Spans) → AreKept requirements s l.cells.present l.kept;
}
