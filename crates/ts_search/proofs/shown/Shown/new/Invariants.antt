use Rattle.std.proofs.Common.{◌≡◌, length}
use Rattle.ts_automaton.specs.AutomatonRun.{AreCellValues}
use Rattle.ts_search.proofs.shown.Shown.new.Given as goal

-- the series has a value for each cell so far
abbrev pub invariant-loop-domain : goal.invariant-loop-domain
invariant-loop-domain l = record {
  count : length l.series.items ≡ l.domain-index;
  cells : AreCellValues l.series.items;
}
