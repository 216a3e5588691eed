use Rattle.ts_automaton.proofs.FrontLaws.{words_before}
use Rattle.ts_automaton.proofs.line_words.words_up_to.Goals as goal

pub returns : goal.returns
returns c = words_before c.args.words.now c.args.k
