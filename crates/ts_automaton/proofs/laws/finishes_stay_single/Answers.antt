use Rattle.ts_automaton.proofs.RunLaws.{finishes_stay_single}
use Rattle.ts_automaton.proofs.laws.finishes_stay_single.Goals as goal

pub returns : goal.returns
returns c = finishes_stay_single
