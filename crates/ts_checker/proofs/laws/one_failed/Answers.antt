use Rattle.ts_checker.proofs.OneAnswer.{one_failed}
use Rattle.ts_checker.proofs.laws.one_failed.Goals as goal

pub returns : goal.returns
returns c = one_failed
