use Rattle.std.proofs.Common.{◌≡◌}
use Rattle.ts_filter.specs.KeptCells.{below_all}
use Rattle.ts_filter.proofs.SparedLaws.{mapped}
use Rattle.ts_filter.proofs.kept_cells.clear.Given as goal

abbrev pub invariant-loop-i : goal.invariant-loop-i
invariant-loop-i l = l.marks ≡ mapped (λ limit. below_all) l.i l.fn.marks
