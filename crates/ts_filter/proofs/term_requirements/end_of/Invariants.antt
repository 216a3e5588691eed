use Rattle.std.proofs.Common.{◌≤◌, length}
use Rattle.ts_filter.specs.TermDrops.{NoneFrom}
use Rattle.ts_filter.proofs.term_requirements.end_of.Given as goal

abbrev pub invariant-loop-end : goal.invariant-loop-end
invariant-loop-end l = record { within : l.end ≤ length l.all; none_behind : NoneFrom l.all l.term l.end }

abbrev pub decreases-loop-end : goal.decreases-loop-end
decreases-loop-end l = l.end
