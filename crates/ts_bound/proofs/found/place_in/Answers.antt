use Rattle.std.proofs.Common.{sym}
use Rattle.ts_bound.proofs.PackedStacks.{told_same}
use Rattle.ts_bound.proofs.found.place_in.Goals as goal

pub returns-clause-same : goal.returns-clause-same
returns-clause-same c = sym (told_same _ _ c.ne.result c.ne.ensures c.if-ne.false)
