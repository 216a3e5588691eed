use Rattle.std.proofs.Common.{◌≡◌, ◌+◌, ◌++◌, length, drop}
use Rattle.ts_domain.specs.Counts.{counts_from}
use Rattle.ts_domain.specs.Values.{values_of}
use Rattle.ts_domain.proofs.counted.counts.Given as goal

abbrev pub invariant-loop-range : goal.invariant-loop-range
invariant-loop-range l = record {
  made : l.before.items ++ counts_from l.count (drop l.range-index l.ranges) ≡ counts_from 0 l.ranges;
  sum : l.count + length (values_of (drop l.range-index l.ranges)) ≡ length (values_of l.ranges);
}
