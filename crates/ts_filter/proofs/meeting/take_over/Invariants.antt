use Rattle.ts_bound.proofs.OthersLaws.{AreTaken}
use Rattle.ts_filter.proofs.meeting.take_over.Given as goal

abbrev pub invariant-loop-i : goal.invariant-loop-i
invariant-loop-i l = AreTaken l.others.each.items l.seen.items l.cells.present l.i
