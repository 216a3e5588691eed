use Rattle.ts_run.proofs.Runs.{no_fault_reported}
use Rattle.ts_run.proofs.call.run_over_never.Goals as goal

pub returns : goal.returns
returns c = no_fault_reported c.run.result c.run.ensures.reads.fault c.run.ensures.writes.fault
