use Rattle.std.proofs.Common.{pos}
use Rattle.ts_domain.proofs.Places.{high_count}
use Rattle.ts_domain.proofs.Ways.{way_given}
use Rattle.ts_domain.proofs.way.way_at.Goals as goal

pub returns-in-len1-up : goal.returns-in-len1-up
returns-in-len1-up c i at =
    let way = way_given c.args.ranges.now c.args.piece c.ended_below-at.result (record { low = pos 0; high = pos 0 }) c.args.v c.min.result c.requires.apart
    c.requires.piece (high_count c.args.v c.args.ranges.now _ c.ranges.v c.ended_below-at.ensures.count) c.in-len1-up.len_at_least
    c.min.ensures.value i at in
    record { next = way.0; behind = way.1 }
