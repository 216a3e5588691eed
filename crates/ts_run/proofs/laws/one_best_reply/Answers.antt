use Rattle.ts_run.proofs.BestLaws as laws
use Rattle.ts_run.proofs.laws.one_best_reply.Goals as goal

pub returns : goal.returns
returns c = laws.one_best_reply
