use Rattle.ts_run.proofs.SampleCounts as laws
use Rattle.ts_run.proofs.laws.few_cells_are_done.Goals as goal

pub returns : goal.returns
returns c = laws.few_cells_are_done
