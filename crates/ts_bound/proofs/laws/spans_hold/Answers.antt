use Rattle.ts_bound.proofs.Reached.{spans_hold}
use Rattle.ts_bound.proofs.laws.spans_hold.Goals as goal

pub returns : goal.returns
returns c = spans_hold
