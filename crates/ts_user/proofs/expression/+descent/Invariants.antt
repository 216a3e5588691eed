use Rattle.std.proofs.Common.{◌≡◌, ◌≤◌, ◌+◌, ◌*◌, List, take}
use Rattle.ts_user.specs.FromTheEnd.{Within, blank_level, read_on}
use Rattle.ts_user.specs.Expressions.{at_level}
use Rattle.ts_user.proofs.expression.+descent.Given as goal

abbrev pub decreases-read_bracketed : goal.decreases-read_bracketed
decreases-read_bracketed l = 3 * l.left + 3

abbrev pub decreases-read_part : goal.decreases-read_part
decreases-read_part l = 3 * l.read.left + 1

abbrev pub decreases-read_level : goal.decreases-read_level
decreases-read_level l = 3 * l.left + 2

abbrev pub invariant-read_level-loop-read : goal.invariant-read_level-loop-read
invariant-read_level-loop-read l = record {
  before : l.read.left ≤ l.left;
  same : (outer : List Within) →
      read_on 256 (take l.read.left l.word) (at_level outer l.read.level) ≡ read_on 256 (take l.left l.word) (record { inner = blank_level; outer = outer });
}

abbrev pub decreases-read_level-loop-read : goal.decreases-read_level-loop-read
decreases-read_level-loop-read l = l.read.left
