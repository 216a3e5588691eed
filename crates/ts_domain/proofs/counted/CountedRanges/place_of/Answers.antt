use Rattle.std.proofs.Common.{arith, pos}
use Rattle.std.proofs.lemmas.Int.{ints}
use Rattle.ts_domain.proofs.Counts.{found_given, place_given}
use Rattle.ts_domain.specs.Values.{values_of}
use Rattle.ts_domain.proofs.Places.{high_count}
use Rattle.ts_domain.proofs.PlaceLaws.{range_has, place_in_range, single_is}
use Rattle.ts_domain.proofs.counted.CountedRanges.place_of.Goals as goal

pub overflow_sub-result : goal.overflow_sub-result
overflow_sub-result c =
    let r = single_is c.args.self.now.items.items c.as_slice-items.result.now (record { low = pos 0; high = pos 0 }) c.as_slice-items.ensures
    c.if-items-eq1.true c.requires.apart in
    let between = range_has (values_of c.args.self.now.items.items) _ c.args.v r c.requires.has in
    omega (arith, ints, between.0, between.1, r.from, r.to)

pub overflow_cast-result : goal.overflow_cast-result
overflow_cast-result c =
    let r = single_is c.args.self.now.items.items c.as_slice-items.result.now (record { low = pos 0; high = pos 0 }) c.as_slice-items.ensures
    c.if-items-eq1.true c.requires.apart in
    let between = range_has (values_of c.args.self.now.items.items) _ c.args.v r c.requires.has in
    omega (arith, ints, between.0, between.1, r.from, r.to)

pub returns-then-items-eq1 : goal.returns-then-items-eq1
returns-then-items-eq1 c =
    let r = single_is c.args.self.now.items.items c.as_slice-items.result.now (record { low = pos 0; high = pos 0 }) c.as_slice-items.ensures
    c.if-items-eq1.true c.requires.apart in
    let between = range_has (values_of c.args.self.now.items.items) _ c.args.v r c.requires.has in
    place_in_range (values_of c.args.self.now.items.items) _ c.args.v _ r c.requires.has (omega (arith, ints, between.0, between.1, r.from, r.to))

pub bounds-items-at : goal.bounds-items-at
bounds-items-at c =
    (found_given c.args.self.now.items.items c.as_slice-items.result.now c.args.self.now.before.items c.as_slice-before.result.now c.args.v
    c.ended_below-at.result
    (record { low = pos 0; high = pos 0 }) c.as_slice-items.ensures c.as_slice-before.ensures c.args.self.now.counted c.requires.apart c.requires.has
    (high_count c.args.v c.as_slice-items.result.now _ c.ranges.v c.ended_below-at.ensures.count)).in_ranges

pub bounds-before-at : goal.bounds-before-at
bounds-before-at c =
    (found_given c.args.self.now.items.items c.as_slice-items.result.now c.args.self.now.before.items c.as_slice-before.result.now c.args.v
    c.ended_below-at.result
    (record { low = pos 0; high = pos 0 }) c.as_slice-items.ensures c.as_slice-before.ensures c.args.self.now.counted c.requires.apart c.requires.has
    (high_count c.args.v c.as_slice-items.result.now _ c.ranges.v c.ended_below-at.ensures.count)).in_counts

pub overflow_sub-above : goal.overflow_sub-above
overflow_sub-above c =
    let f = found_given c.args.self.now.items.items c.as_slice-items.result.now c.args.self.now.before.items c.as_slice-before.result.now c.args.v
    c.ended_below-at.result
    (record { low = pos 0; high = pos 0 }) c.as_slice-items.ensures c.as_slice-before.ensures c.args.self.now.counted c.requires.apart c.requires.has
    (high_count c.args.v c.as_slice-items.result.now _ c.ranges.v c.ended_below-at.ensures.count) in
    omega (arith, ints, f.low, f.from, f.to)

pub overflow_cast-result-3 : goal.overflow_cast-result-3
overflow_cast-result-3 c =
    let f = found_given c.args.self.now.items.items c.as_slice-items.result.now c.args.self.now.before.items c.as_slice-before.result.now c.args.v
    c.ended_below-at.result
    (record { low = pos 0; high = pos 0 }) c.as_slice-items.ensures c.as_slice-before.ensures c.args.self.now.counted c.requires.apart c.requires.has
    (high_count c.args.v c.as_slice-items.result.now _ c.ranges.v c.ended_below-at.ensures.count) in
    omega (arith, ints, f.from)

pub returns : goal.returns
returns c =
    let f = found_given c.args.self.now.items.items c.as_slice-items.result.now c.args.self.now.before.items c.as_slice-before.result.now c.args.v
    c.ended_below-at.result (record { low = pos 0; high = pos 0 }) c.as_slice-items.ensures c.as_slice-before.ensures c.args.self.now.counted
    c.requires.apart c.requires.has
    (high_count c.args.v c.as_slice-items.result.now _ c.ranges.v c.ended_below-at.ensures.count) in
    place_given c.args.self.now.items.items c.as_slice-items.result.now c.args.self.now.before.items c.as_slice-before.result.now c.args.v
    c.ended_below-at.result _ (record { low = pos 0; high = pos 0 }) c.as_slice-items.ensures c.as_slice-before.ensures c.args.self.now.counted
    c.requires.apart c.requires.has
    (high_count c.args.v c.as_slice-items.result.now _ c.ranges.v c.ended_below-at.ensures.count) (omega (arith, ints, f.from))
