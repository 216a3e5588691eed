use Rattle.std.proofs.Common.{◌≡◌, ◌+◌, ◌-◌, ◌≤◌, ◌++◌, drop, length}
use Rattle.ts_mark.specs.MarkText.{cell_words}
use Rattle.ts_mark.specs.Walk.{ended, begun}
use Rattle.ts_mark.proofs.text.push_cells.Given as goal

abbrev pub invariant-loop-k : goal.invariant-loop-k
invariant-loop-k l = record {
  words : l.text.items ++ cell_words l.ranges (l.k + 1) (l.cells - l.k) ≡ l.initial.text.items ++ cell_words l.ranges 1 l.cells;
  starts : l.first + ended (l.k + 1) (drop l.first l.ranges) ≡ ended (l.k + 1) l.ranges;
  ends : l.behind + begun (l.k + 1) (drop l.behind l.ranges) ≡ begun (l.k + 1) l.ranges;
  first : l.first ≤ length l.ranges;
  behind : l.behind ≤ length l.ranges;
}
