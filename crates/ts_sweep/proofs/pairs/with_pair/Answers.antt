use Rattle.std.proofs.Common.{◌≡◌}
use Rattle.ts_hull.specs.Sealed.{after_move}
use Rattle.ts_sweep.specs.Packed.{unpacked}
use Rattle.ts_sweep.specs.Sides.{seen_hull}
use Rattle.ts_sweep.proofs.PairSteps.{as_both_passed, with_joined}
use Rattle.ts_sweep.proofs.pairs.with_pair.Goals as goal

pub returns-clause-packed : goal.returns-clause-packed
returns-clause-packed g c =
    (with_joined g.H.Hull.both g.H.Hull.none g.H.Packed.lanes g.H.Packed.count g.met.H.Packed.both_lanes g.met.H.Packed.none_lanes c.requires.registers
    c.args.all c.moved.result c.joined.result _ c.requires.all c.moved.ensures.packed
    (as_both_passed (λ x y. unpacked (g.H.Packed.lanes c.moved.result)
    ≡ seen_hull g.H.Packed.sides (after_move (g.M.PairMove.made c.args.by) (unpacked (g.H.Packed.lanes c.args.h)) x y))
    c.args.v c.args.w c.requires.this c.requires.next c.moved.ensures.value) c.joined.ensures).0

pub returns-clause-value : goal.returns-clause-value
returns-clause-value g c =
    (with_joined g.H.Hull.both g.H.Hull.none g.H.Packed.lanes g.H.Packed.count g.met.H.Packed.both_lanes g.met.H.Packed.none_lanes c.requires.registers
    c.args.all c.moved.result c.joined.result _ c.requires.all c.moved.ensures.packed
    (as_both_passed (λ x y. unpacked (g.H.Packed.lanes c.moved.result)
    ≡ seen_hull g.H.Packed.sides (after_move (g.M.PairMove.made c.args.by) (unpacked (g.H.Packed.lanes c.args.h)) x y))
    c.args.v c.args.w c.requires.this c.requires.next c.moved.ensures.value) c.joined.ensures).1
