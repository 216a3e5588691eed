use Rattle.ts_automaton.proofs.RunLaws.{nones_stay}
use Rattle.ts_automaton.proofs.laws.nones_stay.Goals as goal

pub returns : goal.returns
returns c = nones_stay
