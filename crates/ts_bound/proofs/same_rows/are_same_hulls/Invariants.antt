use Rattle.std.proofs.Common.{◌≡◌, take}
use Rattle.ts_bound.proofs.same_rows.are_same_hulls.Given as goal

abbrev pub invariant-loop-i : goal.invariant-loop-i
invariant-loop-i g l = take l.i l.a ≡ take l.i l.b
