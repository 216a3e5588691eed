use Rattle.std.proofs.Common.{◌≡◌, length}
use Rattle.ts_filter.specs.Tables.{AreRowsOfEach, machines_of}
use Rattle.ts_filter.proofs.CourseLaws.{AskedBelow}
use Rattle.ts_filter.proofs.courses.drops_at.Given as goal

abbrev pub invariant-loop-i : goal.invariant-loop-i
invariant-loop-i g l = record {
  machines : machines_of l.each.items ≡ machines_of l.fn.each.items;
  known : AreRowsOfEach l.cells.present l.each.items;
  asked : AskedBelow l.requirements (machines_of l.fn.each.items) l.cells.present l.before l.i l.courses.items l.first;
  count : length l.courses.items ≡ length l.fn.courses.items;
}
