use Rattle.std.proofs.Common.{pos}
use Rattle.ts_domain.proofs.Places.{high_count, first_is, ended_some}
use Rattle.ts_domain.proofs.lookup.first_from.Goals as goal

pub bounds-ranges-ended : goal.bounds-ranges-ended
bounds-ranges-ended c = ended_some c.args.ranges.now c.args.t _ (record { low = pos 0; high = pos 0 }) c.requires.apart c.requires.some
    (high_count c.args.t c.args.ranges.now _ c.ranges.t c.ended_below-ended.ensures.count)

pub returns : goal.returns
returns c = first_is c.args.ranges.now c.args.t _ _ _ c.requires.apart c.requires.some
    (high_count c.args.t c.args.ranges.now _ c.ranges.t c.ended_below-ended.ensures.count) c.ranges.t (record { sfits = c.max.type_inv }) c.max.ensures.value
