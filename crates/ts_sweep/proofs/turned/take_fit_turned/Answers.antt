use Rattle.std.proofs.Common.{neg_ℤ, arith}
use Rattle.ts_hull.specs.Sweeps.{compares}
use Rattle.ts_sweep.proofs.Entries.{given_is}
use Rattle.ts_sweep.proofs.Kept.{kept_packed}
use Rattle.ts_sweep.proofs.TurnedMoves.{turned_small}
use Rattle.ts_sweep.proofs.turned.take_fit_turned.Goals as goal

pub returns-clause-packed : goal.returns-clause-packed
returns-clause-packed g c =
    let long = c.requires.packed.0 in
    let by = c.args.by in
    let n = g.H.Packed.count in
    let next = g.W.Values.value c.args.next_values in
    kept_packed g.H.Hull.both g.H.Hull.none g.H.Packed.lanes n g.met.H.Packed.both_lanes g.met.H.Packed.none_lanes c.requires.registers
    g.met.H.Packed.takes_none _ _ _ _ c.take.ensures.taken c.requires.next_packed
    (λ j lt. (given_is g.H.Hull.both g.H.Hull.none g.H.Packed.lanes n g.met.H.Packed.both_lanes g.met.H.Packed.none_lanes c.requires.registers
    g.H.Packed.sides (g.F.Fronts.fit by) (g.F.Fronts.closable by) (g.F.Fronts.front by) (g.F.Fronts.closing by) (g.F.Moves.cut by)
    (g.met.F.Fronts.closable_none by) (g.met.F.Fronts.closable_both by) (g.met.F.Fronts.closable_front by)
    (λ h v f s. g.met.F.Moves.front_is by h v c.requires.registers f s) (λ h w f s. g.met.F.Moves.closing_is by h w c.requires.registers f s)
    (λ i. compares c.args.letter c.args.twin (g.V.Values.value c.args.values i) (next j)) c.args.before.now (g.V.Values.value c.args.values) (neg_ℤ (next j))
    (c.all_fit.ensures c.if-not-all_fit.false) (λ i less. g.met.V.Values.is_small c.args.values c.requires.ok i (omega (arith, less, long)))
    (turned_small (next j) (g.met.W.Values.is_small c.args.next_values c.requires.next_ok j lt))).0)
