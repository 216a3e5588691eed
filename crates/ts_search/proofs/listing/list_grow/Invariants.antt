use Rattle.std.proofs.Common.{◌≡◌, ◌-◌}
use Rattle.std.specs.List.{AllByRecursion}
use Rattle.ts_filter.specs.Boxes.{IsPart}
use Rattle.ts_search.specs.Leaps.{IsPaced}
use Rattle.ts_search.specs.LineOf.{TheFirst}
use Rattle.ts_search.specs.Shown.{AreHeld}
use Rattle.ts_search.specs.Turns.{list_start, list_turns}
use Rattle.ts_search.specs.Views.{list_state_of, search_of}
use Rattle.ts_search.proofs.listing.list_grow.Given as goal

abbrev pub invariant-loop : goal.invariant-loop
invariant-loop l = record {
  machines : l.tables.machines ≡ l.fn.tables.machines;
  turned : list_turns (search_of l.problem) l.count (l.budget - l.counter) (list_state_of l.tree)
      ≡ list_turns (search_of l.problem) l.count l.budget (list_start (search_of l.problem));
  held : AreHeld l.problem l.witnesses;
  parts : AllByRecursion (λ b. IsPart b (search_of l.problem).model.cells) l.tree.frontier.boxes;
  paced : IsPaced (TheFirst (search_of l.problem)) l.pace l.tree.frontier.boxes;
}
