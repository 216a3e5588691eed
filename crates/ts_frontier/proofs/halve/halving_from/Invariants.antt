use Rattle.std.proofs.Common.{take}
use Rattle.ts_frontier.specs.Halve.{IsSingle}
use Rattle.ts_frontier.proofs.halve.halving_from.Given as goal

abbrev pub invariant-loop-i : goal.invariant-loop-i
invariant-loop-i l = IsSingle (take l.i l.b.present)
