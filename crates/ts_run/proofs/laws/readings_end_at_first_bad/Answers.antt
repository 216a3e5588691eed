use Rattle.ts_run.proofs.FirstBad as laws
use Rattle.ts_run.proofs.laws.readings_end_at_first_bad.Goals as goal

pub returns : goal.returns
returns c = laws.readings_end_at_first_bad
