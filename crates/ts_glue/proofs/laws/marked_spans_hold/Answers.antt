use Rattle.ts_glue.proofs.SpanGlue.{marked_spans_hold}
use Rattle.ts_glue.proofs.laws.marked_spans_hold.Goals as goal

pub returns : goal.returns
returns c = marked_spans_hold
