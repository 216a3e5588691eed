use Rattle.ts_run.proofs.VerifyLaws as laws
use Rattle.ts_run.proofs.laws.one_verify_reply.Goals as goal

pub returns : goal.returns
returns c = laws.one_verify_reply
