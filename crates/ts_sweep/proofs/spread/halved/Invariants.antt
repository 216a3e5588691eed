use Rattle.std.proofs.Common.{◌≡◌, ◌≤◌, ◌<◌, ◌-◌, ℕ, false, nat_eq, not}
use denote.Param.{number, value_of}
use Rattle.ts_hull.specs.Sweeps.{compares}
use Rattle.ts_sweep.specs.PairMoves.{reach_by}
use Rattle.ts_sweep.specs.Sweeps.{step_place}
use Rattle.ts_sweep.proofs.spread.halved.Given as goal

abbrev pub decreases-loop-low : goal.decreases-loop-low
decreases-loop-low g l = l.high - l.low

abbrev pub invariant-loop-low : goal.invariant-loop-low
invariant-loop-low g l =
    ((k : ℕ) → k < g.V.Values.len l.values → k < l.low →
    compares l.letter l.twin (g.V.Values.value l.values (step_place (not (nat_eq (value_of (number g.row.UP)) 0)) (g.V.Values.len l.values) k)) l.w ≡ false)
    × (l.high ≤ l.n) × (l.n ≡ g.V.Values.len l.values) × (l.reach ≡ reach_by l.letter l.twin l.w)
