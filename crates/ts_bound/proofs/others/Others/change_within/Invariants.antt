use Rattle.std.proofs.Common.{take}
use Rattle.ts_bound.specs.Others.{IsCovered}
use Rattle.ts_bound.proofs.others.Others.change_within.Given as goal

abbrev pub invariant-loop-i : goal.invariant-loop-i
invariant-loop-i l = IsCovered l.from l.to (take l.i l.self.each.items) l.change
