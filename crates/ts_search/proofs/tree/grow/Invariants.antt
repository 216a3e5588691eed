use Rattle.std.proofs.Common.{◌≡◌, ◌-◌}
use Rattle.std.specs.List.{AllByRecursion}
use Rattle.ts_filter.specs.Boxes.{IsPart}
use Rattle.ts_search.specs.Leaps.{IsPaced}
use Rattle.ts_search.specs.LineOf.{TheBest}
use Rattle.ts_search.specs.Shown.{AreHeld}
use Rattle.ts_search.specs.Turns.{start, turns}
use Rattle.ts_search.specs.Views.{contest_of, find_of, search_of, state_of}
use Rattle.ts_search.proofs.tree.grow.Given as goal

-- the turns that are left lead where all lead
abbrev pub invariant-loop : goal.invariant-loop
invariant-loop l = record {
  machines : l.tables.machines ≡ l.fn.tables.machines;
  turned : turns (contest_of l.contest) (l.budget - l.counter) (state_of l.tree)
      ≡ turns (contest_of l.contest) l.budget (start (contest_of l.contest));
  held : AreHeld l.contest.problem l.witnesses;
  parts : AllByRecursion (λ b. IsPart b (search_of l.contest.problem).model.cells) l.tree.frontier.boxes;
  paced : IsPaced (TheBest (contest_of l.contest) (find_of l.tree.found)) l.pace l.tree.frontier.boxes;
}
