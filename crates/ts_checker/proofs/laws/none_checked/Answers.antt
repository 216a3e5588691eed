use Rattle.ts_checker.proofs.Verdicts.{none_checked}
use Rattle.ts_checker.proofs.laws.none_checked.Goals as goal

pub returns : goal.returns
returns c = none_checked
