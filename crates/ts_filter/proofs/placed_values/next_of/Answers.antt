use Rattle.std.proofs.Common.{length, ap, arith}
use Rattle.ts_filter.proofs.placed_values.next_of.Goals as goal

pub unreachable-requires : goal.unreachable-requires
unreachable-requires c = let none = ap length c.in-None.ensures.steps.0 in let some = c.requires in omega (arith, none, some)
