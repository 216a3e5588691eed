use Rattle.ts_checker.proofs.OneAnswer.{one_end}
use Rattle.ts_checker.proofs.laws.one_end.Goals as goal

pub returns : goal.returns
returns c = one_end
