use Rattle.ts_automaton.specs.SpanRun.{HullStands, hull_standing}
use Rattle.ts_machine_tests.proofs.automata.runs.span_of.Given as goal

abbrev pub invariant-loop-k : goal.invariant-loop-k
invariant-loop-k l = HullStands l.automaton (hull_standing l.at)
