use Rattle.ts_bound.proofs.Reached.{values_narrowed}
use Rattle.ts_bound.proofs.laws.value_spans_are_narrowed.Goals as goal

pub returns : goal.returns
returns c = values_narrowed
