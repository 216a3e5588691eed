use Rattle.std.proofs.Common.{◌≡◌, ◌++◌, drop}
use Rattle.ts_mark.specs.MarkText.{range_lines}
use Rattle.ts_mark.proofs.text.push_ranges.Given as goal

abbrev pub invariant-loop-range : goal.invariant-loop-range
invariant-loop-range l = l.text.items ++ range_lines (drop l.range-index l.ranges) ≡ l.initial.text.items ++ range_lines l.ranges
