use Rattle.std.proofs.Common.{sym}
use Rattle.ts_base.proofs.WordCuts.{space_cut, uncut}
use Rattle.ts_base.proofs.words.words_of.Goals as goal

pub returns-in-Some-clause-words : goal.returns-in-Some-clause-words
returns-in-Some-clause-words c = sym (space_cut c.args.line.now c.in-Some.n c.in-Some.ensures)

pub returns-in-None-clause-words : goal.returns-in-None-clause-words
returns-in-None-clause-words c = sym (uncut c.args.line.now c.in-None.ensures)
