use Rattle.std.proofs.Common.{take}
use Rattle.ts_validate.proofs.Knowing.{AreAdded}
use Rattle.ts_validate.proofs.residuals.Residuals.of.Given as goal

abbrev pub invariant-loop-r : goal.invariant-loop-r
invariant-loop-r l = AreAdded (take l.r-index l.residuals) l.forms l.numbers.items
