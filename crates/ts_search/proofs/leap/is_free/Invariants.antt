use Rattle.std.proofs.Common.{◌≡◌}
use Rattle.ts_search.specs.Views.{search_of}
use Rattle.ts_search.proofs.CodeLeaps.{NoneRefutes}
use Rattle.ts_search.proofs.leap.is_free.Given as goal

abbrev pub invariant-loop-j : goal.invariant-loop-j
invariant-loop-j l = record {
  same : l.tables ≡ l.fn.tables;
  none : NoneRefutes (search_of l.problem) l.cells.present l.k l.v l.j;
}
