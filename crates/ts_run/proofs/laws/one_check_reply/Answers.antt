use Rattle.ts_run.proofs.CheckLaws as laws
use Rattle.ts_run.proofs.laws.one_check_reply.Goals as goal

pub returns : goal.returns
returns c = laws.one_check_reply
