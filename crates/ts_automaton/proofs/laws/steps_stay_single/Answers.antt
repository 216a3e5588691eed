use Rattle.ts_automaton.proofs.RunLaws.{steps_stay_single}
use Rattle.ts_automaton.proofs.laws.steps_stay_single.Goals as goal

pub returns : goal.returns
returns c = steps_stay_single
