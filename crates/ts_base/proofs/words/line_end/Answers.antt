use Rattle.ts_base.proofs.WordCuts.{line_ended, last_line}
use Rattle.ts_base.proofs.words.line_end.Goals as goal

pub returns-in-Some-clause-cut : goal.returns-in-Some-clause-cut
returns-in-Some-clause-cut c = line_ended c.args.text.now c.in-Some.n c.requires c.in-Some.ensures

pub returns-in-None-clause-cut : goal.returns-in-None-clause-cut
returns-in-None-clause-cut c = last_line c.args.text.now c.requires c.in-None.ensures
