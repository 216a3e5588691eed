use Rattle.ts_sweep.proofs.PairSteps.{ArePaired}
use Rattle.ts_sweep.proofs.pairs.take_pairs.Given as goal

abbrev pub invariant-loop-j : goal.invariant-loop-j
invariant-loop-j g l =
    ArePaired g.H.Packed.sides g.H.Packed.lanes g.H.Hull.none g.H.Packed.count (g.M.PairMove.made l.by) l.letter l.twin (g.V.Values.len l.values)
    (g.V.Values.value l.values)
    l.before (g.W.Values.len l.next_values) (g.W.Values.value l.next_values) l.j l.initial.next l.next
