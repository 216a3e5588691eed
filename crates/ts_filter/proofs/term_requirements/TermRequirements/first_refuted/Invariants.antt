use Rattle.ts_filter.proofs.Refuting.{NoneOf}
use Rattle.ts_filter.proofs.term_requirements.TermRequirements.first_refuted.Given as goal

abbrev pub invariant-loop-at : goal.invariant-loop-at
invariant-loop-at l = NoneOf l.self.all.now l.self.term l.span l.at
