use Rattle.std.proofs.Common.{◌≡◌, ℕ, ◌<◌, true, get_or}
use Rattle.ts_sweep.specs.Lanes.{some_lanes}
use Rattle.ts_sweep.specs.Packed.{is_wide}
use Rattle.ts_sweep.specs.PairMoves.{IsBegun}
use Rattle.ts_sweep.specs.Sides.{as_read}
use Rattle.ts_sweep.proofs.pair_move.are_begun.Given as goal

abbrev pub invariant-loop-i : goal.invariant-loop-i
invariant-loop-i g l =
    l.all ≡ true → (k : ℕ) → k < l.i → some_lanes (g.H.Packed.lanes (get_or l.hulls k g.H.Hull.none)) ≡ true →
    IsBegun g.H.Packed.sides (is_wide g.H.Packed.count) l.cells (as_read g.H.Packed.sides (g.H.Packed.lanes (get_or l.hulls k g.H.Hull.none)))
