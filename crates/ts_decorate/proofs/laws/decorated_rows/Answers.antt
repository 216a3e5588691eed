use Rattle.ts_decorate.proofs.Typed.{is_decorated_automaton}
use Rattle.ts_decorate.proofs.CallerLemmas.{answers_ranges, keeps_mark}
use Rattle.ts_decorate.proofs.laws.decorated_rows.Goals as goal

abbrev pub returns-clause-rules : goal.returns-clause-rules
returns-clause-rules c = λ rows h few a one g f. is_decorated_automaton rows h few a g f

abbrev pub returns-clause-answer : goal.returns-clause-answer
returns-clause-answer c = answers_ranges

abbrev pub returns-clause-mark : goal.returns-clause-mark
returns-clause-mark c = keeps_mark
