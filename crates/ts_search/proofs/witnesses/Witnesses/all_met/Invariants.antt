use Rattle.ts_search.proofs.Marks.{AreMetBelow}
use Rattle.ts_search.proofs.witnesses.Witnesses.all_met.Given as goal

-- the requirements on the term before place i are met
abbrev pub invariant-loop-i : goal.invariant-loop-i
invariant-loop-i l = record { met : AreMetBelow l.problem l.self l.term l.i }
