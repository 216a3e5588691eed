use Rattle.ts_automaton.proofs.RunLaws.{kinds_are_kept}
use Rattle.ts_automaton.proofs.laws.kinds_are_kept.Goals as goal

pub returns : goal.returns
returns c = kinds_are_kept
