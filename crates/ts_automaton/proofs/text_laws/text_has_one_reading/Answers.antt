use Rattle.ts_automaton.proofs.TextLaws.{one_reading}
use Rattle.ts_automaton.proofs.text_laws.text_has_one_reading.Goals as goal

pub returns : goal.returns
returns c = one_reading
