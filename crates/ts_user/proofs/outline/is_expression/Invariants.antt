use Rattle.std.proofs.Common.{◌≡◌, ◌+◌, ◌≤◌, Some, drop, length}
use Rattle.std.specs.Prelude.{option_map}
use Rattle.ts_user.specs.FromTheEnd.{levels_of, most_nodes}
use Rattle.ts_user.specs.Outlines.{outline_of}
use Rattle.ts_user.proofs.outline.is_expression.Given as goal

abbrev pub invariant-loop-left : goal.invariant-loop-left
invariant-loop-left l = record {
  inside : l.outline.depth + l.left ≤ length l.word;
  read : option_map outline_of (levels_of (most_nodes l.word) (drop l.left l.word)) ≡ Some l.outline;
}

abbrev pub decreases-loop-left : goal.decreases-loop-left
decreases-loop-left l = l.left
