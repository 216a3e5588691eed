use Rattle.ts_filter.proofs.Answered.{accepted_holds}
use Rattle.ts_filter.proofs.laws.accepted_holds.Goals as goal

pub returns : goal.returns
returns c = accepted_holds
