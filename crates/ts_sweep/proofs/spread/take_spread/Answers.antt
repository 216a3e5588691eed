use Rattle.std.proofs.Common.{refl}
use Rattle.ts_sweep.proofs.SpreadMoves.{spread_packed, spread_moved}
use Rattle.ts_sweep.proofs.spread.take_spread.Goals as goal

pub returns-clause-packed : goal.returns-clause-packed
returns-clause-packed g c =
    spread_packed g.H.Hull.both g.H.Hull.none g.H.Packed.lanes g.H.Packed.count g.met.H.Packed.both_lanes g.met.H.Packed.none_lanes c.requires.registers
    c.requires.wide g.H.Packed.sides g.H.Packed.replaced g.met.H.Packed.replaced_lanes g.met.H.Packed.alone g.met.H.Packed.takes_none c.args.greatest
    c.args.letter
    c.args.twin (g.V.Values.len c.args.values) (g.V.Values.value c.args.values) c.args.before.now c.requires.packed
    (λ i lt. g.met.V.Values.is_small c.args.values c.requires.ok i lt) c.requires.begun _ (λ t w. refl) (g.W.Values.len c.args.next_values)
    (g.W.Values.value c.args.next_values) _ _ (λ j lt. g.met.W.Values.is_small c.args.next_values c.requires.next_ok j lt) c.requires.next_packed
    c.take.ensures.taken

pub returns-clause-taken : goal.returns-clause-taken
returns-clause-taken g c =
    spread_moved g.H.Hull.both g.H.Hull.none g.H.Packed.lanes g.H.Packed.count g.met.H.Packed.both_lanes g.met.H.Packed.none_lanes c.requires.registers
    c.requires.wide g.H.Packed.sides g.H.Packed.replaced g.met.H.Packed.replaced_lanes g.met.H.Packed.alone g.met.H.Packed.takes_none c.args.greatest
    c.args.letter
    c.args.twin (g.V.Values.len c.args.values) (g.V.Values.value c.args.values) c.args.before.now c.requires.packed
    (λ i lt. g.met.V.Values.is_small c.args.values c.requires.ok i lt) c.requires.begun _ (λ t w. refl) (g.W.Values.len c.args.next_values)
    (g.W.Values.value c.args.next_values) _ _ (λ j lt. g.met.W.Values.is_small c.args.next_values c.requires.next_ok j lt) c.requires.next_packed
    c.take.ensures.taken
