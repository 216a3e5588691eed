use Rattle.std.proofs.Common.{map, take}
use Rattle.std.specs.Prelude.{◌≡◌, ◌≤◌, ◌-◌}
use Rattle.ts_meet.specs.Meets.{hull_of_spans}
use Rattle.ts_bound.specs.TermSpans.{value_span}
use Rattle.ts_filter.specs.Alike.{FindsAlike}
use Rattle.ts_filter.specs.Boxes.{values_at}
use Rattle.ts_filter.specs.SoFar.{IsSoFar}
use Rattle.ts_filter.proofs.cell_hulls.CellHulls.with_all.Given as goal

abbrev pub invariant-loop-at : goal.invariant-loop-at
invariant-loop-at l =
    (l.known.asked ≡ l.fn.asked)
    × FindsAlike l.fn.asked l.known.span
    (hull_of_spans (map (value_span l.self.machine l.self.cell l.self.cells) (take l.at (values_at l.self.cell l.self.cells))))
    × IsSoFar l.known
    × (l.at ≤ l.count)

abbrev pub decreases-loop-at : goal.decreases-loop-at
decreases-loop-at l = l.count - l.at
