use Rattle.std.proofs.Common.{◌≡◌, ◌+◌, ◌-◌, length}
use Rattle.ts_search.specs.Dive.{dive}
use Rattle.ts_search.specs.Posed.{MayAsk}
use Rattle.ts_search.specs.Shown.{AreHeld}
use Rattle.ts_search.specs.Views.{search_of}
use Rattle.ts_search.proofs.DiveSteps.{EndsAs}
use Rattle.ts_search.proofs.dive.dive.Given as goal

abbrev pub invariant-loop-k : goal.invariant-loop-k
invariant-loop-k l = record {
  machines : l.tables.machines ≡ l.fn.tables.machines;
  held : AreHeld l.contest.problem l.witnesses;
  asked : MayAsk l.contest.problem l.tables l.cells.present;
  ends : EndsAs (search_of l.contest.problem).model (search_of l.contest.problem).spans l.contest.goal
      (length (search_of l.contest.problem).model.cells + 1 - l.k) l.k
      l.cells.present (dive (search_of l.contest.problem).model (search_of l.contest.problem).spans l.contest.goal);
}
