use Rattle.std.proofs.Common.{◌≡◌, take}
use Rattle.ts_search.proofs.leap.copied.Given as goal

abbrev pub invariant-loop-i : goal.invariant-loop-i
invariant-loop-i l = l.domains.items ≡ take l.i l.cells.present
