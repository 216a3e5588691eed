use Rattle.std.proofs.Common.{◌≡◌, length}
use Rattle.ts_sweep.specs.Lanes.{AreSameFrom}
use Rattle.ts_sweep.proofs.CoverLaws.{AreTurned}
use Rattle.ts_sweep.proofs.cover.turned.Given as goal

abbrev pub invariant-loop-k : goal.invariant-loop-k
invariant-loop-k g l =
    (length l.at ≡ g.row.N) × (length l.h.at ≡ g.row.N) × AreTurned l.k l.h.at l.at × AreSameFrom l.k l.h.at l.at
