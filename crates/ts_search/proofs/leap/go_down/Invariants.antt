use Rattle.std.proofs.Common.{◌≡◌, ◌-◌, ◌≤◌, length, take}
use Rattle.ts_frontier.specs.Halve.{IsSingle}
use Rattle.ts_search.specs.Leaps.{AreTried, LeadDown}
use Rattle.ts_search.specs.Views.{search_of}
use Rattle.ts_search.proofs.leap.go_down.Given as goal

abbrev pub invariant-loop-i : goal.invariant-loop-i
invariant-loop-i l = record {
  machines : l.tables.machines ≡ l.fn.tables.machines;
  deep : length l.below.earlier ≡ l.i;
  down : LeadDown l.fn.below.present l.below;
  from : 1 ≤ l.from;
  before : IsSingle (take (l.from - 1) l.below.present);
  tried : AreTried (search_of l.problem) l.i l.fn.below.present;
}
