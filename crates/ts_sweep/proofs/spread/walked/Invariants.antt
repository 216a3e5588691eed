use Rattle.std.proofs.Common.{◌≡◌, ◌-◌, get_or, nat_eq, not}
use denote.Param.{number, value_of}
use Rattle.ts_hull.specs.Sweeps.{compares}
use Rattle.ts_sweep.specs.declared.packed.Name.TheVariants.{R as NameR}
use Rattle.ts_sweep.specs.Lanes.{some_lanes}
use Rattle.ts_sweep.specs.Packed.{name_ends}
use Rattle.ts_sweep.specs.PairMoves.{reach_by}
use Rattle.ts_sweep.specs.Sides.{as_read}
use Rattle.ts_sweep.specs.Spreads.{lesser}
use Rattle.ts_sweep.proofs.SpreadWalks.{IsWalked}
use Rattle.ts_sweep.proofs.spread.walked.Given as goal

abbrev pub decreases-loop-found : goal.decreases-loop-found
decreases-loop-found g l = l.n - l.k

abbrev pub invariant-loop-found : goal.invariant-loop-found
invariant-loop-found g l =
    IsWalked (not (nat_eq (value_of (number g.row.UP)) 0)) (λ i. compares l.letter l.twin (g.V.Values.value l.values i) l.w)
    (λ i. lesser (not (nat_eq (value_of (number g.row.ABOVE)) 0)) l.bounded (some_lanes (g.H.Packed.lanes (get_or l.before i g.H.Hull.none)))
    (name_ends (as_read g.H.Packed.sides (g.H.Packed.lanes (get_or l.before i g.H.Hull.none))) NameR) (g.V.Values.value l.values i) l.w)
    (g.V.Values.len l.values) l.k l.found
    × (l.n ≡ g.V.Values.len l.values) × (l.reach ≡ reach_by l.letter l.twin l.w)
