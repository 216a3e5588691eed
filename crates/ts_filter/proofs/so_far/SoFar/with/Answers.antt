use Rattle.ts_filter.proofs.SoFarLaws.{one_told}
use Rattle.ts_filter.proofs.so_far.SoFar.with.Goals as goal

pub returns-then-excludes : goal.returns-then-excludes
returns-then-excludes c = (one_told c.args.self c.args.part _ c.excludes.result c.hull-span.ensures c.excludes.ensures).0 c.if-excludes.true

pub returns-else-excludes : goal.returns-else-excludes
returns-else-excludes c = (one_told c.args.self c.args.part _ c.excludes.result c.hull-span.ensures c.excludes.ensures).1 c.if-excludes.false
