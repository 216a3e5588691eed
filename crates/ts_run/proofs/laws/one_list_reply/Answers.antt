use Rattle.ts_run.proofs.BestLaws as laws
use Rattle.ts_run.proofs.laws.one_list_reply.Goals as goal

pub returns : goal.returns
returns c = laws.one_list_reply
