use Rattle.std.proofs.Common.{rules, of_calls, nat_le}
use Rattle.std.proofs.lemmas.List.Sorted.{IsPartitionPoint-from_clause}
use Rattle.ts_domain.proofs.Counts.{counts_parted, passed}
use Rattle.ts_domain.proofs.counted.range_of_place.Goals as goal

pub overflow_sub-result : goal.overflow_sub-result
overflow_sub-result c =
    (passed c.args.ranges.now c.args.before.now c.args.i _ c.requires.apart c.requires.counted c.requires.below c.partition_point-begun.ensures.bound
    (IsPartitionPoint-from_clause (λ b. nat_le b c.args.i) _ _ c.partition_point-begun.ensures.partitioned
    (counts_parted c.args.ranges.now _ c.args.i c.requires.counted) (λ a r q k. search (rules, of_calls)))).0

pub returns-clause-in_ranges : goal.returns-clause-in_ranges
returns-clause-in_ranges c =
    (passed c.args.ranges.now c.args.before.now c.args.i _ c.requires.apart c.requires.counted c.requires.below c.partition_point-begun.ensures.bound
    (IsPartitionPoint-from_clause (λ b. nat_le b c.args.i) _ _ c.partition_point-begun.ensures.partitioned
    (counts_parted c.args.ranges.now _ c.args.i c.requires.counted) (λ a r q k. search (rules, of_calls)))).1

pub returns-clause-in_counts : goal.returns-clause-in_counts
returns-clause-in_counts c =
    (passed c.args.ranges.now c.args.before.now c.args.i _ c.requires.apart c.requires.counted c.requires.below c.partition_point-begun.ensures.bound
    (IsPartitionPoint-from_clause (λ b. nat_le b c.args.i) _ _ c.partition_point-begun.ensures.partitioned
    (counts_parted c.args.ranges.now _ c.args.i c.requires.counted) (λ a r q k. search (rules, of_calls)))).2

pub returns-clause-place : goal.returns-clause-place
returns-clause-place c =
    (passed c.args.ranges.now c.args.before.now c.args.i _ c.requires.apart c.requires.counted c.requires.below c.partition_point-begun.ensures.bound
    (IsPartitionPoint-from_clause (λ b. nat_le b c.args.i) _ _ c.partition_point-begun.ensures.partitioned
    (counts_parted c.args.ranges.now _ c.args.i c.requires.counted) (λ a r q k. search (rules, of_calls)))).3
