use Rattle.std.proofs.Common.{◌≡◌, ◌≤◌, length}
use Rattle.ts_search.specs.Leaps.{AreTried, LeadDown}
use Rattle.ts_search.specs.Shown.{AreHeld}
use Rattle.ts_search.specs.Views.{problem_of, search_of}
use Rattle.ts_search.proofs.leap.leap.Given as goal

abbrev pub invariant-loop-far : goal.invariant-loop-far
invariant-loop-far l = record {
  machines : l.tables.machines ≡ l.fn.tables.machines;
  held : AreHeld (problem_of l.seeking) l.witnesses;
  few : l.far ≤ 64;
  there : l.far ≤ length l.below.earlier;
  down : LeadDown l.cells.present l.below;
  tried : AreTried (search_of (problem_of l.seeking)) l.far l.cells.present;
}

abbrev pub decreases-loop-far : goal.decreases-loop-far
decreases-loop-far l = l.far
