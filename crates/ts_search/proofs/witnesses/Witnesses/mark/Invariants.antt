use Rattle.ts_search.specs.Shown.{AreMarked}
use Rattle.ts_search.proofs.witnesses.Witnesses.mark.Given as goal

abbrev pub invariant-loop-term : goal.invariant-loop-term
invariant-loop-term l = record { marked : AreMarked l.problem l.self l.cells.present }
