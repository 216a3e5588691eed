use Rattle.std.proofs.Common.{◌-◌}
use Rattle.ts_filter.specs.Courses.{IsCourse}
use Rattle.ts_filter.specs.KnownRows.{StillKnown}
use Rattle.ts_filter.proofs.box_tables.BoxTables.first_drop.Given as goal

abbrev pub invariant-loop-course : goal.invariant-loop-course
invariant-loop-course g l = record {
  known : StillKnown l.cells.present l.fn.self l.self;
  course : IsCourse l.own.all.now l.own.term l.fn.self.machine l.cells.present l.course;
}

abbrev pub decreases-loop-course : goal.decreases-loop-course
decreases-loop-course g l = l.last - l.course.before
