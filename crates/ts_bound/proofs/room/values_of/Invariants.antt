use Rattle.std.proofs.Common.{◌≡◌, take}
use Rattle.ts_bound.specs.Room.{saturated, values_from}
use Rattle.ts_bound.proofs.room.values_of.Given as goal

abbrev pub invariant-loop-i : goal.invariant-loop-i
invariant-loop-i l = l.values ≡ saturated (values_from l.window 1 (take l.i l.cells))
