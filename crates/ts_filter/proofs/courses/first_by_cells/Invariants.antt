use Rattle.std.proofs.Common.{◌≡◌, ◌-◌}
use Rattle.ts_filter.specs.Courses.{AllFrom, AreCourses}
use Rattle.ts_filter.specs.Tables.{AreRowsOfEach, machines_of}
use Rattle.ts_filter.proofs.courses.first_by_cells.Given as goal

abbrev pub invariant-loop-before : goal.invariant-loop-before
invariant-loop-before g l = record {
  machines : machines_of l.each.items ≡ machines_of l.fn.each.items;
  known : AreRowsOfEach l.cells.present l.each.items;
  courses : AreCourses l.requirements (machines_of l.fn.each.items) l.cells.present l.courses.items;
  from : AllFrom l.before l.courses.items;
}

abbrev pub decreases-loop-before : goal.decreases-loop-before
decreases-loop-before g l = l.count - l.before
