use Rattle.std.proofs.Common.{◌≡◌}
use Rattle.ts_filter.specs.Tables.{AreRowsOfEach, machines_of}
use Rattle.ts_filter.proofs.CourseLaws.{AreBegun}
use Rattle.ts_filter.proofs.courses.begin_all.Given as goal

abbrev pub invariant-loop-at : goal.invariant-loop-at
invariant-loop-at l = record {
  machines : machines_of l.each.items ≡ machines_of l.fn.each.items;
  known : AreRowsOfEach l.cells.present l.each.items;
  begun : AreBegun l.requirements (machines_of l.fn.each.items) l.cells.present l.courses.items l.at;
}
