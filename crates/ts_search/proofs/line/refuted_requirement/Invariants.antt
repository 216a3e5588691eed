use Rattle.std.proofs.Common.{◌≡◌, ◌+◌, ◌-◌}
use Rattle.ts_search.specs.Drops.{least}
use Rattle.ts_search.specs.LineOf.{last, is_refuted_at, refuted_last, requirements}
use Rattle.ts_search.specs.Views.{search_of}
use Rattle.ts_search.proofs.line.refuted_requirement.Given as goal

-- the least from j on is the least of all
abbrev pub invariant-loop-j : goal.invariant-loop-j
invariant-loop-j l = record {
  same : l.tables ≡ l.fn.tables;
  found : least (λ j. is_refuted_at (search_of l.problem) j (last (search_of l.problem)) l.cells.present) (requirements (search_of l.problem) + 1 - l.j) l.j
      ≡ refuted_last (search_of l.problem) l.cells.present;
}
