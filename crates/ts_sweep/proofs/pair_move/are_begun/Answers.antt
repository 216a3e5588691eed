use Rattle.std.proofs.Common.{◌≡◌, ℕ, true, get_or, subst, arith}
use Rattle.ts_sweep.specs.Lanes.{some_lanes}
use Rattle.ts_sweep.specs.Packed.{is_wide}
use Rattle.ts_sweep.specs.PairMoves.{IsBegun}
use Rattle.ts_sweep.specs.Sides.{as_read}
use Rattle.ts_sweep.proofs.PairLaws.{so_far}
use Rattle.ts_sweep.proofs.pair_move.are_begun.Goals as goal

pub loop-i-init : goal.loop-i-init
loop-i-init g c = λ e k lt. absurd (omega (arith, lt))

pub loop-i-preserved : goal.loop-i-preserved
loop-i-preserved g c = λ more. so_far (λ k. some_lanes (g.H.Packed.lanes (get_or c.args.hulls.now k g.H.Hull.none)) ≡ true →
    IsBegun g.H.Packed.sides (is_wide g.H.Packed.count) c.args.cells
    (as_read g.H.Packed.sides (g.H.Packed.lanes (get_or c.args.hulls.now k g.H.Hull.none)))) c.loop-i.i
    (c.loop-i.invariant (c.with_begun-all.ensures.others more))
    (subst (λ h. some_lanes (g.H.Packed.lanes h) ≡ true →
    IsBegun g.H.Packed.sides (is_wide g.H.Packed.count) c.args.cells (as_read g.H.Packed.sides (g.H.Packed.lanes h))) c.hull_of.ensures
    (c.with_begun-all.ensures.begun more))
