use Rattle.std.proofs.Common.{pos}
use Rattle.ts_domain.proofs.Places.{high_count, has_then, has_else}
use Rattle.ts_domain.proofs.lookup.has.Goals as goal

pub returns-then-at-ranges : goal.returns-then-at-ranges
returns-then-at-ranges c = has_then c.args.v c.args.ranges.now _ _ c.requires
    (high_count c.args.v c.args.ranges.now _ c.ranges.v c.ended_below-at.ensures.count) c.if-at-ranges.true c.ranges.v

pub returns-else-at-ranges : goal.returns-else-at-ranges
returns-else-at-ranges c = has_else c.args.v c.args.ranges.now (record { low = pos 0; high = pos 0 }) _ c.requires
    (high_count c.args.v c.args.ranges.now _ c.ranges.v c.ended_below-at.ensures.count) c.if-at-ranges.false
