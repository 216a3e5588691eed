use Rattle.ts_spans.proofs.OfTerms.{spans_tell_singles}
use Rattle.ts_spans.proofs.laws.spans_tell_singles.Goals as goal

pub returns : goal.returns
returns c = spans_tell_singles
