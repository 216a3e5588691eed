use Rattle.ts_filter.proofs.LineLaws.{accepted_is_kept}
use Rattle.ts_filter.proofs.laws.accepted_is_kept.Goals as goal

pub returns : goal.returns
returns c = accepted_is_kept
