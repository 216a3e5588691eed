use Rattle.std.proofs.Common.{◌≡◌, ◌+◌, ◌-◌}
use Rattle.ts_search.specs.LineOf.{first_no, requirements}
use Rattle.ts_search.specs.Views.{search_of}
use Rattle.ts_search.proofs.line.inner_no.Given as goal

abbrev pub invariant-loop-j : goal.invariant-loop-j
invariant-loop-j l = record {
  same : l.tables ≡ l.fn.tables;
  line : first_no (search_of l.problem) l.cells.present (requirements (search_of l.problem) + 1 - l.j) l.j
      ≡ first_no (search_of l.problem) l.cells.present (requirements (search_of l.problem)) 1;
}
