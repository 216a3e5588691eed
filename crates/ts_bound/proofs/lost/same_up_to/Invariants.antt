use Rattle.std.proofs.Common.{◌≡◌, take}
use Rattle.ts_bound.proofs.lost.same_up_to.Given as goal

abbrev pub invariant-loop-i : goal.invariant-loop-i
invariant-loop-i l = take l.i l.now ≡ take l.i l.before
