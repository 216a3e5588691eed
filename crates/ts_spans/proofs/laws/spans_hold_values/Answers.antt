use Rattle.ts_spans.proofs.OfTerms.{spans_hold_values}
use Rattle.ts_spans.proofs.laws.spans_hold_values.Goals as goal

pub returns : goal.returns
returns c = spans_hold_values
