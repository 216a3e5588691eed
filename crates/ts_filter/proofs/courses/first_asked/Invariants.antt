use Rattle.std.proofs.Common.{◌≤◌, option_map}
use Rattle.ts_filter.specs.Courses.{ArePassed}
use Rattle.ts_filter.proofs.courses.first_asked.Given as goal

abbrev pub invariant-loop-before : goal.invariant-loop-before
invariant-loop-before l = record {
  passed : ArePassed (option_map (λ t. t.now) l.kept) l.cells.present l.from l.to l.before;
  from : l.from ≤ l.before;
}
