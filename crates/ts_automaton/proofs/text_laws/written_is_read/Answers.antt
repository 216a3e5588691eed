use Rattle.ts_automaton.proofs.TextLaws.{written_again}
use Rattle.ts_automaton.proofs.text_laws.written_is_read.Goals as goal

pub returns : goal.returns
returns c = written_again
