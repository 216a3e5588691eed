use Rattle.ts_filter.proofs.LineLaws.{lines_go_on, whole_is_judged}
use Rattle.ts_filter.proofs.laws.lines_go_on.Goals as goal

pub returns-clause-more : goal.returns-clause-more
returns-clause-more c = lines_go_on

pub returns-clause-whole : goal.returns-clause-whole
returns-clause-whole c = whole_is_judged
