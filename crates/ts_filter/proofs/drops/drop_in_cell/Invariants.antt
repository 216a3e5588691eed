use Rattle.std.proofs.Common.{◌≡◌, ◌≤◌, ◌-◌, drop, length}
use Rattle.ts_filter.specs.Boxes.{values_at}
use Rattle.ts_filter.specs.TermDrops.{AreLeft}
use Rattle.ts_filter.proofs.drops.drop_in_cell.Given as goal

abbrev pub invariant-loop-i : goal.invariant-loop-i
invariant-loop-i g l =
    (l.i ≤ length (values_at l.hulls.cell l.hulls.cells))
    × AreLeft l.own.all.now l.own.term l.hulls.machine l.hulls.cells l.hulls.cell (drop l.i (values_at l.hulls.cell l.hulls.cells))
    × (l.placed ≡ values_at l.hulls.cell l.hulls.cells)

abbrev pub decreases-loop-i : goal.decreases-loop-i
decreases-loop-i g l = length (values_at l.hulls.cell l.hulls.cells) - l.i
