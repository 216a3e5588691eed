use Rattle.std.proofs.Common.{◌≡◌, ◌+◌, drop}
use Rattle.ts_filter.specs.Boxes.{values_at}
use Rattle.ts_filter.specs.KeptValue.{end_in}
use Rattle.ts_filter.proofs.KeptLaws.{IsSoFar}
use Rattle.ts_filter.proofs.kept.preferred.Given as goal

abbrev pub invariant-loop-v : goal.invariant-loop-v
invariant-loop-v l =
    IsSoFar l.goal (end_in l.hulls.machine l.goal l.hulls.cell l.hulls.cells) (values_at l.hulls.cell l.hulls.cells)
    l.v-iterator l.kept
    × (l.v-iterator ≡ drop (l.place + 1) (values_at l.hulls.cell l.hulls.cells))
    × (l.best ≡ end_in l.hulls.machine l.goal l.hulls.cell l.hulls.cells l.kept)
