use Rattle.ts_automaton.specs.AutomatonRun.{Stands, standing_of}
use Rattle.ts_machine_tests.proofs.terms.forward_at.Given as goal

abbrev pub invariant-loop-place : goal.invariant-loop-place
invariant-loop-place l = Stands l.automaton (standing_of l.at)
