use Rattle.ts_filter.proofs.LineLaws.{one_first_failing, failing_is_rejected}
use Rattle.ts_filter.proofs.laws.failing_is_rejected.Goals as goal

pub returns-clause-one : goal.returns-clause-one
returns-clause-one c = one_first_failing

pub returns-clause-rejected : goal.returns-clause-rejected
returns-clause-rejected c = failing_is_rejected
