use Rattle.ts_automaton.proofs.TextLaws.{one_automaton}
use Rattle.ts_automaton.proofs.text_laws.one_automaton_a_text.Goals as goal

pub returns : goal.returns
returns c = one_automaton
