use Rattle.std.proofs.Common.{◌≡◌, ◌<◌, ◌≤◌, ℕ, Some, slice_get}
use Rattle.ts_filter.specs.declared.courses.TermCourse.{TermCourse}
use Rattle.ts_filter.specs.Courses.{AllFrom, past_all}
use Rattle.ts_filter.proofs.courses.least_before.Given as goal

abbrev pub invariant-loop-i : goal.invariant-loop-i
invariant-loop-i l = record {
  least : (j : ℕ) (c : TermCourse) → j < l.i → slice_get l.courses j ≡ Some c → l.least ≤ c.course.before;
  greatest : (m : ℕ) → m ≤ past_all → AllFrom m l.courses → m ≤ l.least;
}
