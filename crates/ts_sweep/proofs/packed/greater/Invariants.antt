use Rattle.std.proofs.Common.{◌≡◌, length}
use Rattle.ts_sweep.specs.Lanes.{AreGreater, AreSameFrom}
use Rattle.ts_sweep.proofs.packed.greater.Given as goal

abbrev pub invariant-loop-k : goal.invariant-loop-k
invariant-loop-k g l =
    (length l.out ≡ g.row.N) × (length l.b ≡ g.row.N) × (length l.fn.a ≡ g.row.N) × AreGreater l.k l.fn.a l.b l.out
    × AreSameFrom l.k l.fn.a l.out
