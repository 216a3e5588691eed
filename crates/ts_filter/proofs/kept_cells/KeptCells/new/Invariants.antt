use Rattle.std.proofs.Common.{◌≡◌, replicate}
use Rattle.ts_filter.specs.KeptCells.{unknown}
use Rattle.ts_filter.proofs.kept_cells.KeptCells.new.Given as goal

abbrev pub invariant-loop : goal.invariant-loop
invariant-loop l = l.each.items ≡ replicate l.counter (unknown l.cells)
