use Rattle.ts_filter.proofs.MachineLaws.{spans_are_of_machines, machines_hold, machines_tell}
use Rattle.ts_filter.proofs.laws.spans_are_of_machines.Goals as goal

pub returns-clause-same : goal.returns-clause-same
returns-clause-same c = spans_are_of_machines

pub returns-clause-hold : goal.returns-clause-hold
returns-clause-hold c = machines_hold

pub returns-clause-tell : goal.returns-clause-tell
returns-clause-tell c = machines_tell
