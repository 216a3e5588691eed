use Rattle.ts_filter.proofs.RangeLaws.{lines_in_range}
use Rattle.ts_filter.proofs.TreeLaws.{steps_go_on}
use Rattle.ts_filter.proofs.laws.steps_go_on.Goals as goal

pub returns-clause-more : goal.returns-clause-more
returns-clause-more c = steps_go_on

pub returns-clause-ranges : goal.returns-clause-ranges
returns-clause-ranges c = lines_in_range
