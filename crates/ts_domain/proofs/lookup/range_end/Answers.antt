use Rattle.std.proofs.Common.{pos}
use Rattle.ts_domain.proofs.Places.{high_count}
use Rattle.ts_domain.proofs.Stretches.{range_reach}
use Rattle.ts_domain.proofs.lookup.range_end.Goals as goal

pub returns-then-ranges-at-clause-from : goal.returns-then-ranges-at-clause-from
returns-then-ranges-at-clause-from c =
    (range_reach c.args.t c.args.ranges.now (record { low = pos 0; high = pos 0 }) _ c.requires
    (high_count c.args.t c.args.ranges.now _ c.ranges.t c.ended_below-at.ensures.count) c.if-at-ranges.true c.ranges.t c.if-ranges-at.true).0

pub returns-then-ranges-at-clause-all : goal.returns-then-ranges-at-clause-all
returns-then-ranges-at-clause-all c =
    (range_reach c.args.t c.args.ranges.now (record { low = pos 0; high = pos 0 }) _ c.requires
    (high_count c.args.t c.args.ranges.now _ c.ranges.t c.ended_below-at.ensures.count) c.if-at-ranges.true c.ranges.t c.if-ranges-at.true).1
