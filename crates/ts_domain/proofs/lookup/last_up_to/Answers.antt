use Rattle.std.proofs.Common.{arith}
use Rattle.ts_domain.proofs.Places.{low_count, last_is, begun_some}
use Rattle.ts_domain.proofs.lookup.last_up_to.Goals as goal

pub overflow_sub-begun : goal.overflow_sub-begun
overflow_sub-begun c = begun_some c.args.ranges.now c.args.t _ c.requires.apart c.requires.some
    (low_count c.args.t c.args.ranges.now _ c.ranges.t c.begun_by-begun.ensures.count)

pub bounds-ranges-begun : goal.bounds-ranges-begun
bounds-ranges-begun c = let some = begun_some c.args.ranges.now c.args.t _ c.requires.apart c.requires.some
    (low_count c.args.t c.args.ranges.now _ c.ranges.t c.begun_by-begun.ensures.count) in omega (arith, some, c.begun_by-begun.ensures.bound)

pub returns : goal.returns
returns c =
    last_is c.args.ranges.now c.args.t _ _ _ c.requires.apart c.requires.some
    (low_count c.args.t c.args.ranges.now _ c.ranges.t c.begun_by-begun.ensures.count) c.begun_by-begun.ensures.bound c.ranges.t
    (record { sfits = c.min.type_inv }) c.min.ensures.value
