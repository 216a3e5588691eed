use Rattle.ts_run.proofs.MarkLaws as laws
use Rattle.ts_run.proofs.laws.one_mark_reply.Goals as goal

pub returns : goal.returns
returns c = laws.one_mark_reply
