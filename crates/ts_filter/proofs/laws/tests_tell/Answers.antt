use Rattle.ts_filter.proofs.TestLaws.{tests_tell}
use Rattle.ts_filter.proofs.laws.tests_tell.Goals as goal

pub returns : goal.returns
returns c = tests_tell
