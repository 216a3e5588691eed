use Rattle.std.proofs.Common.{arith}
use Rattle.ts_sweep.proofs.Kept.{kept_packed, gives_packed}
use Rattle.ts_sweep.proofs.take.take_fit.Goals as goal

pub returns-clause-packed : goal.returns-clause-packed
returns-clause-packed g c =
    let long = c.requires.packed.0 in
    kept_packed g.H.Hull.both g.H.Hull.none g.H.Packed.lanes g.H.Packed.count g.met.H.Packed.both_lanes g.met.H.Packed.none_lanes c.requires.registers
    g.met.H.Packed.takes_none _ _ _ _ c.take.ensures.taken c.requires.next_packed
    (λ j lt. gives_packed g.H.Hull.both g.H.Hull.none g.H.Packed.lanes g.H.Packed.count g.met.H.Packed.both_lanes g.met.H.Packed.none_lanes
    c.requires.registers g.H.Packed.sides (g.F.Fronts.fit c.args.by) (g.F.Fronts.closable c.args.by) (g.F.Fronts.front c.args.by) (g.F.Fronts.closing c.args.by)
    (g.F.Moves.cut c.args.by) (g.met.F.Fronts.closable_none c.args.by) (g.met.F.Fronts.closable_both c.args.by) (g.met.F.Fronts.closable_front c.args.by)
    (λ h v f s. g.met.F.Moves.front_is c.args.by h v c.requires.registers f s) (λ h w f s. g.met.F.Moves.closing_is c.args.by h w c.requires.registers f s)
    c.args.letter c.args.twin c.args.before.now (g.V.Values.value c.args.values) (g.W.Values.value c.args.next_values j)
    (c.all_fit.ensures c.if-not-all_fit.false)
    (λ i less. g.met.V.Values.is_small c.args.values c.requires.ok i (omega (arith, less, long)))
    (g.met.W.Values.is_small c.args.next_values c.requires.next_ok j lt))
