use Rattle.ts_bound.proofs.Singles.{spans_stay_single}
use Rattle.ts_bound.proofs.laws.spans_stay_single.Goals as goal

pub returns : goal.returns
returns c = spans_stay_single
