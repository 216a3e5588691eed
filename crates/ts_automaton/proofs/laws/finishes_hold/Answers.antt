use Rattle.ts_automaton.proofs.RunLaws.{finishes_hold}
use Rattle.ts_automaton.proofs.laws.finishes_hold.Goals as goal

pub returns : goal.returns
returns c = finishes_hold
