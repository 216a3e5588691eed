use Rattle.std.proofs.Common.{◌≡◌, take}
use Rattle.ts_filter.proofs.meeting.copied.Given as goal

abbrev pub invariant-loop-at : goal.invariant-loop-at
invariant-loop-at l = l.copies.items ≡ take l.at l.cells.present
