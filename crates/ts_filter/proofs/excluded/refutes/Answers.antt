use Rattle.ts_filter.proofs.SpanEnds.{some_refutes}
use Rattle.ts_filter.proofs.excluded.refutes.Goals as goal

pub returns-else-is_none : goal.returns-else-is_none
returns-else-is_none c =
    some_refutes c.args.op c.args.bound c.args.span c.is_none.result c.ends_refute.result c.is_none.ensures c.if-is_none.false c.ends_refute.ensures
