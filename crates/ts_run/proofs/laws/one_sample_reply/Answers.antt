use Rattle.ts_run.proofs.SampleCounts as laws
use Rattle.ts_run.proofs.laws.one_sample_reply.Goals as goal

pub returns : goal.returns
returns c = laws.one_sample_reply
