use Rattle.ts_checker.proofs.Verdicts.{one_verdict}
use Rattle.ts_checker.proofs.laws.one_verdict.Goals as goal

pub returns : goal.returns
returns c = one_verdict
