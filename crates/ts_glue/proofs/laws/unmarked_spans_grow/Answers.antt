use Rattle.ts_glue.proofs.SpanGlue.{unmarked_spans_grow}
use Rattle.ts_glue.proofs.laws.unmarked_spans_grow.Goals as goal

pub returns : goal.returns
returns c = unmarked_spans_grow
