use Rattle.std.proofs.Common.{rules, of_calls, int_lt}
use Rattle.std.proofs.lemmas.List.Sorted.{IsPartitionPoint-from_clause}
use Rattle.ts_domain.proofs.Places.{leading_at, highs_parted}
use Rattle.ts_domain.proofs.lookup.ended_below.Goals as goal

pub returns-clause-count : goal.returns-clause-count
returns-clause-count c =
    leading_at (λ r. int_lt r.high c.args.t) _ _ c.partition_point.ensures.bound
    (IsPartitionPoint-from_clause (λ r. int_lt r.high c.args.t) _ _ c.partition_point.ensures.partitioned (highs_parted _ c.args.t _ c.requires)
    (λ a r q k. search (rules, of_calls)))
