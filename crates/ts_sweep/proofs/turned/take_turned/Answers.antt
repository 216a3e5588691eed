use Rattle.std.proofs.Common.{get_or, subst, sym, ap, ◌∙◌, arith}
use Rattle.ts_hull.specs.Cuts.{all_swept}
use Rattle.ts_sweep.specs.Moves.{IsFrontOf, IsClosingOf}
use Rattle.ts_sweep.specs.PackedLaws.{packed_length}
use Rattle.ts_sweep.proofs.SmallLanes.{small_column, small_read}
use Rattle.ts_sweep.proofs.TurnedMoves.{turned_moved}
use Rattle.ts_sweep.proofs.turned.take_turned.Goals as goal

pub returns-clause-taken : goal.returns-clause-taken
returns-clause-taken g c =
    let by = c.args.by in
    let s = g.H.Packed.sides in
    let lanes = g.H.Packed.lanes in
    let n = g.H.Packed.count in
    let long = c.requires.packed.0 in
    λ is m cut_is. turned_moved g.H.Hull.both g.H.Hull.none lanes n g.met.H.Packed.both_lanes g.met.H.Packed.none_lanes
    c.requires.registers s (g.F.Fronts.fit by) (g.F.Fronts.closable by) (g.F.Fronts.front by) (g.F.Fronts.closing by) m
    (g.met.F.Fronts.closable_none by) (g.met.F.Fronts.closable_both by) (g.met.F.Fronts.closable_front by)
    (λ h v f small. subst (λ z. IsFrontOf s z n (lanes h) v (lanes (g.F.Fronts.front by h v))) (sym cut_is)
    (g.met.F.Moves.front_is by h v c.requires.registers f small))
    (λ h w f small. subst (λ z. IsClosingOf s z n (lanes h) w (lanes (g.F.Fronts.closing by h w))) (sym cut_is)
    (g.met.F.Moves.closing_is by h w c.requires.registers f small))
    g.met.H.Packed.takes_none c.args.letter c.args.twin _ _ c.args.before.now c.args.next.now _ (g.V.Values.value c.args.values)
    (g.W.Values.value c.args.next_values) (ap all_swept cut_is ∙ c.requires.swept)
    (λ i lt. (let h = get_or c.args.before.now i g.H.Hull.none in
    let packed = c.requires.packed.1 i lt in
    sym (small_read s n (lanes h) (packed_length n (lanes h) packed) g.met.H.Packed.alone (g.met.H.Packed.shown h c.requires.registers packed))
    ∙ small_column s lanes g.H.Hull.none c.args.before.now i (omega (arith, lt, long)) (sym c.are_small.ensures ∙ c.if-not-are_small.false)))
    long (c.take_fit_turned.ensures.fit is) (λ i less. g.met.V.Values.is_small c.args.values c.requires.ok i less)
    (λ k less. g.met.W.Values.is_small c.args.next_values c.requires.next_ok k less) c.requires.next_packed (c.take_fit_turned.ensures.taken is)
