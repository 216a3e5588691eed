use Rattle.std.proofs.Common.{◌≤◌, ◌-◌, length}
use Rattle.ts_filter.proofs.SparedLaws.{AreAbove, AreUpTo}
use Rattle.ts_filter.proofs.drops.count_up_to.Given as goal

abbrev pub invariant-loop-from : goal.invariant-loop-from
invariant-loop-from l = record {
  order : l.from ≤ l.to;
  within : l.to ≤ length l.values;
  below : AreUpTo l.values l.from l.limit;
  above : AreAbove l.values l.to l.limit;
}

abbrev pub decreases-loop-from : goal.decreases-loop-from
decreases-loop-from l = l.to - l.from
