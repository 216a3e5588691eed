use Rattle.ts_sweep.proofs.PairSteps.{IsGiven}
use Rattle.ts_sweep.proofs.pairs.given.Given as goal

abbrev pub invariant-loop-i : goal.invariant-loop-i
invariant-loop-i g l =
    IsGiven g.H.Packed.sides g.H.Packed.lanes g.H.Hull.none g.H.Packed.count (g.M.PairMove.made l.by) l.letter l.twin l.i (g.V.Values.value l.values) l.before
    l.w l.all
