use Rattle.ts_automaton.proofs.FormulaLaws.{formula_exactly}
use Rattle.ts_automaton.proofs.text_laws.words_are_read.Goals as goal

pub returns : goal.returns
returns c = formula_exactly
