use Rattle.ts_filter.proofs.Quiet.{AmongUpTo}
use Rattle.ts_filter.proofs.term_requirements.TermRequirements.are_among.Given as goal

abbrev pub invariant-loop-i : goal.invariant-loop-i
invariant-loop-i l = AmongUpTo l.self.all.now l.self.term l.others l.i
