use Rattle.std.proofs.Common.{◌≡◌}
use Rattle.ts_meet.specs.Meets.{hull_of_spans}
use Rattle.ts_bound.specs.Blocks.{finishes}
use Rattle.ts_bound.proofs.block.finish_block.Given as goal

abbrev pub invariant-loop-q : goal.invariant-loop-q
invariant-loop-q l = l.span ≡ hull_of_spans (finishes l.a l.hulls l.n l.q)
