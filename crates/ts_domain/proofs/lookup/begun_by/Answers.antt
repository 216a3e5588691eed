use Rattle.std.proofs.Common.{rules, of_calls, int_le}
use Rattle.std.proofs.lemmas.List.Sorted.{IsPartitionPoint-from_clause}
use Rattle.ts_domain.proofs.Places.{leading_at, lows_parted}
use Rattle.ts_domain.proofs.lookup.begun_by.Goals as goal

pub returns-clause-count : goal.returns-clause-count
returns-clause-count c =
    leading_at (λ r. int_le r.low c.args.t) _ _ c.partition_point.ensures.bound
    (IsPartitionPoint-from_clause (λ r. int_le r.low c.args.t) _ _ c.partition_point.ensures.partitioned (lows_parted _ c.args.t _ c.requires)
    (λ a r q k. search (rules, of_calls)))
