use Rattle.ts_base.specs.declared.span.Span.{Span}
use Rattle.ts_meet.specs.Asked.{Reaches}
use Rattle.ts_filter.proofs.Refuting.{NoneOf}
use Rattle.ts_filter.proofs.term_requirements.TermRequirements.enough.Given as goal

abbrev pub invariant-loop-k : goal.invariant-loop-k
invariant-loop-k l = (s : Span) → Reaches l.ends s → NoneOf l.self.all.now l.self.term s l.k
