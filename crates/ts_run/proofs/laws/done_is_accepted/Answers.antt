use Rattle.ts_run.proofs.VerifyLaws as laws
use Rattle.ts_run.proofs.laws.done_is_accepted.Goals as goal

pub returns : goal.returns
returns c = laws.done_is_accepted
