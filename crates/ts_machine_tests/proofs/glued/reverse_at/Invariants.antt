use Rattle.ts_automaton.specs.AutomatonRun.{Stands, standing_of}
use Rattle.ts_machine_tests.proofs.glued.reverse_at.Given as goal

abbrev pub invariant-loop-read : goal.invariant-loop-read
invariant-loop-read l = Stands l.automaton (standing_of l.at)
