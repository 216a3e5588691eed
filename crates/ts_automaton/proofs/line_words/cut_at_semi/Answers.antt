use Rattle.ts_automaton.proofs.FrontLaws.{semi_cut, uncut}
use Rattle.ts_automaton.proofs.line_words.cut_at_semi.Goals as goal

pub returns-in-Some : goal.returns-in-Some
returns-in-Some c = semi_cut c.args.words.now c.in-Some.n c.in-Some.ensures

pub returns-in-None : goal.returns-in-None
returns-in-None c = uncut c.args.words.now c.in-None.ensures
