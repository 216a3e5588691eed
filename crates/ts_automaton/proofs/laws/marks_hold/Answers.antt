use Rattle.ts_automaton.proofs.RunLaws.{marks_hold}
use Rattle.ts_automaton.proofs.laws.marks_hold.Goals as goal

pub returns : goal.returns
returns c = marks_hold
