use Rattle.std.proofs.Common.{arith}
use Rattle.ts_sweep.proofs.PairSteps.{paired_begun, paired_more}
use Rattle.ts_sweep.proofs.pairs.take_pairs.Goals as goal

pub loop-j-init : goal.loop-j-init
loop-j-init g c =
    paired_begun g.H.Hull.both g.H.Hull.none g.H.Packed.lanes g.H.Packed.count g.met.H.Packed.both_lanes g.met.H.Packed.none_lanes c.requires.registers
    g.H.Packed.sides (g.M.PairMove.made c.args.by)
    c.args.letter c.args.twin (g.V.Values.value c.args.values) c.args.before.now (g.V.Values.len c.args.values) (g.W.Values.len c.args.next_values)
    (g.W.Values.value c.args.next_values) c.args.next.now c.requires.next_packed

pub loop-j-preserved : goal.loop-j-preserved
loop-j-preserved g c =
    paired_more g.H.Hull.both g.H.Hull.none g.H.Packed.lanes g.H.Packed.count g.met.H.Packed.both_lanes g.met.H.Packed.none_lanes c.requires.registers
    g.H.Packed.sides (g.M.PairMove.made c.args.by)
    c.args.letter c.args.twin (g.V.Values.value c.args.values) c.args.before.now (g.V.Values.len c.args.values) (g.W.Values.len c.args.next_values)
    (g.W.Values.value c.args.next_values) c.loop-j.j c.args.next.now c.loop-j.next _ c.loop-j.invariant
    (omega (arith, c.loop-j-test.true, c.count-j-end.ensures)) c.take_given.ensures
