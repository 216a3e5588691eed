use Rattle.std.proofs.Common.{pos, neg_ℤ, arith}
use Rattle.ts_domain.proofs.Counts.{counting_more, summing_more, counted_all}
use Rattle.ts_domain.proofs.PieceReads.{few}
use Rattle.ts_domain.proofs.Ranges.{range_at}
use Rattle.ts_domain.proofs.counted.counts.Goals as goal

pub overflow_cast-place : goal.overflow_cast-place
overflow_cast-place c = let small = few c.args.ranges.now c.requires in let sum = c.loop-range.invariant.sum in omega (arith, small, sum)

pub count-count-requires-clause-from : goal.count-count-requires-clause-from
count-count-requires-clause-from c = (range_at (neg_ℤ (pos 1000000)) c.args.ranges.now _ _ c.requires c.loop-range-test.true).0

pub count-count-requires-clause-ordered : goal.count-count-requires-clause-ordered
count-count-requires-clause-ordered c = (range_at (neg_ℤ (pos 1000000)) c.args.ranges.now _ _ c.requires c.loop-range-test.true).1

pub count-count-requires-clause-to : goal.count-count-requires-clause-to
count-count-requires-clause-to c = (range_at (neg_ℤ (pos 1000000)) c.args.ranges.now _ _ c.requires c.loop-range-test.true).2

pub overflow_add-count : goal.overflow_add-count
overflow_add-count c =
    let small = few c.args.ranges.now c.requires in
    let more = summing_more c.args.ranges.now _ _ _ _ c.loop-range-test.true c.count-count.ensures c.loop-range.invariant.sum in
    omega (arith, small, more)

pub loop-range-preserved : goal.loop-range-preserved
loop-range-preserved c = record {
  made = counting_more c.args.ranges.now _ _ _ _ _ _ c.loop-range-test.true c.count-count.ensures c.loop-range.invariant.made c.in_ok-push.ensures.ok;
  sum = summing_more c.args.ranges.now _ _ _ _ c.loop-range-test.true c.count-count.ensures c.loop-range.invariant.sum;
}

pub returns : goal.returns
returns c = counted_all c.args.ranges.now _ _ _ c.loop-range-test.false c.loop-range.invariant.made
