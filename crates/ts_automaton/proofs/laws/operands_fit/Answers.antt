use Rattle.ts_automaton.proofs.RunLaws.{operands_fit}
use Rattle.ts_automaton.proofs.laws.operands_fit.Goals as goal

pub returns : goal.returns
returns c = operands_fit
