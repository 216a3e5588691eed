use Rattle.ts_automaton.proofs.FrontLaws.{words_after}
use Rattle.ts_automaton.proofs.line_words.words_from.Goals as goal

pub returns : goal.returns
returns c = words_after c.args.words.now c.args.k
