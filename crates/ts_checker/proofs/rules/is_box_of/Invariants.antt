use Rattle.std.proofs.Common.{◌≡◌, take}
use Rattle.ts_filter.specs.Boxes.{box_of}
use Rattle.ts_checker.proofs.rules.is_box_of.Given as goal

abbrev pub invariant-loop-i : goal.invariant-loop-i
invariant-loop-i l = take l.i l.b.present ≡ box_of (take l.i l.series)
