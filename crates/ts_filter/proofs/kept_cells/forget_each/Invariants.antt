use Rattle.std.proofs.Common.{◌≡◌}
use Rattle.ts_filter.specs.KeptCells.{forgotten}
use Rattle.ts_filter.proofs.SparedLaws.{mapped}
use Rattle.ts_filter.proofs.kept_cells.forget_each.Given as goal

abbrev pub invariant-loop-term : goal.invariant-loop-term
invariant-loop-term l = l.each ≡ mapped forgotten l.term l.fn.each
