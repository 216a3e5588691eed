use Rattle.std.proofs.Common.{◌≤◌}
use Rattle.ts_domain.proofs.merge.joined_count.Given as goal

abbrev pub invariant-loop-next : goal.invariant-loop-next
invariant-loop-next l = l.count ≤ l.next-index
