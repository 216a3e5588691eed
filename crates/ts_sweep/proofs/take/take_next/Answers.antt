use Rattle.std.proofs.Common.{get_or, sym, ◌∙◌, arith}
use Rattle.ts_sweep.specs.PackedLaws.{packed_length}
use Rattle.ts_sweep.proofs.SmallLanes.{small_column, small_read}
use Rattle.ts_sweep.proofs.take.take_next.Goals as goal

pub take_small-requires-clause-small : goal.take_small-requires-clause-small
take_small-requires-clause-small g c =
    let s = g.H.Packed.sides in
    let lanes = g.H.Packed.lanes in
    let n = g.H.Packed.count in
    let long = c.requires.packed.0 in
    λ i lt. (let h = get_or c.args.before.now i g.H.Hull.none in
    let packed = c.requires.packed.1 i lt in
    sym (small_read s n (lanes h) (packed_length n (lanes h) packed) g.met.H.Packed.alone (g.met.H.Packed.shown h c.requires.registers packed))
    ∙ small_column s lanes g.H.Hull.none c.args.before.now i (omega (arith, lt, long)) (sym c.are_small.ensures ∙ c.if-not-are_small.false))
