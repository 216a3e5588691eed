use Rattle.ts_filter.proofs.CallLaws.{calls_tell}
use Rattle.ts_filter.proofs.laws.calls_tell.Goals as goal

pub returns : goal.returns
returns c = calls_tell
