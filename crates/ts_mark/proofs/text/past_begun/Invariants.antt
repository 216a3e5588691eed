use Rattle.std.proofs.Common.{◌≡◌, ◌+◌, ◌-◌, ◌≤◌, drop, length}
use Rattle.ts_mark.specs.Walk.{begun}
use Rattle.ts_mark.proofs.text.past_begun.Given as goal

abbrev pub invariant-loop-place : goal.invariant-loop-place
invariant-loop-place l = record {
  exact : l.place + begun l.cell (drop l.place l.ranges) ≡ l.from + begun l.cell (drop l.from l.ranges);
  inside : l.place ≤ length l.ranges;
}

abbrev pub decreases-loop-place : goal.decreases-loop-place
decreases-loop-place l = length l.ranges - l.place
