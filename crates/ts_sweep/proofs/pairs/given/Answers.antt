use Rattle.ts_sweep.proofs.PairSteps.{given_begun, given_more}
use Rattle.ts_sweep.proofs.pairs.given.Goals as goal

pub loop-i-init : goal.loop-i-init
loop-i-init g c =
    given_begun g.H.Hull.both g.H.Hull.none g.H.Packed.lanes g.H.Packed.count g.met.H.Packed.both_lanes g.met.H.Packed.none_lanes c.requires.registers
    g.H.Packed.sides (g.M.PairMove.made c.args.by)
    c.args.letter c.args.twin (g.V.Values.value c.args.values) c.args.before.now _ _ c.nothing-all.ensures

pub loop-i-preserved : goal.loop-i-preserved
loop-i-preserved g c =
    given_more g.H.Hull.both g.H.Hull.none g.H.Packed.lanes g.H.Packed.count g.met.H.Packed.both_lanes g.met.H.Packed.none_lanes c.requires.registers
    g.H.Packed.sides (g.M.PairMove.made c.args.by)
    c.args.letter c.args.twin (g.V.Values.value c.args.values) c.args.before.now c.loop-i.i _ c.loop-i.all _
    c.loop-i.invariant c.with_moved-all.ensures.packed c.with_moved-all.ensures.value
