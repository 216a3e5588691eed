use Rattle.ts_run.proofs.CheckLaws as laws
use Rattle.ts_run.proofs.laws.done_is_meets.Goals as goal

pub returns : goal.returns
returns c = laws.done_is_meets
