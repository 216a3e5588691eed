use Rattle.ts_domain.proofs.Joins.{Joining}
use Rattle.ts_domain.proofs.merge.joined.Given as goal

abbrev pub invariant-loop-next : goal.invariant-loop-next
invariant-loop-next l = Joining l.sorted l.ranges.items l.last l.next-index
