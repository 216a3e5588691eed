use Rattle.ts_automaton.proofs.RunLaws.{steps_hold}
use Rattle.ts_automaton.proofs.laws.steps_hold.Goals as goal

pub returns : goal.returns
returns c = steps_hold
