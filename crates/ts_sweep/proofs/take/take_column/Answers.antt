use Rattle.std.proofs.Common.{subst, sym, ap, ◌∙◌}
use Rattle.ts_hull.specs.Cuts.{all_whole}
use Rattle.ts_sweep.specs.Moves.{IsFrontOf, IsClosingOf}
use Rattle.ts_sweep.proofs.Columns.{column_moved}
use Rattle.ts_sweep.proofs.take.take_column.Goals as goal

pub returns-clause-taken : goal.returns-clause-taken
returns-clause-taken g c =
    let by = c.args.by in
    let lanes = g.H.Packed.lanes in
    let n = g.H.Packed.count in
    let long = c.requires.packed.0 in
    λ is m cut_is. column_moved g.H.Hull.both g.H.Hull.none lanes n g.met.H.Packed.both_lanes g.met.H.Packed.none_lanes
    c.requires.registers g.H.Packed.sides (g.F.Fronts.fit by) (g.F.Fronts.closable by) (g.F.Fronts.front by) (g.F.Fronts.closing by) m
    (g.met.F.Fronts.closable_none by) (g.met.F.Fronts.closable_both by) (g.met.F.Fronts.closable_front by)
    (λ h v f s. subst (λ z. IsFrontOf g.H.Packed.sides z n (lanes h) v (lanes (g.F.Fronts.front by h v))) (sym cut_is)
    (g.met.F.Moves.front_is by h v c.requires.registers f s))
    (λ h w f s. subst (λ z. IsClosingOf g.H.Packed.sides z n (lanes h) w (lanes (g.F.Fronts.closing by h w))) (sym cut_is)
    (g.met.F.Moves.closing_is by h w c.requires.registers f s))
    g.met.H.Packed.takes_none c.args.letter c.args.twin _ _ c.args.before.now c.args.next.now _ (g.V.Values.value c.args.values)
    (g.W.Values.value c.args.next_values) (ap all_whole cut_is ∙ c.requires.whole) long (c.take_fit.ensures.fit is)
    (λ i less. g.met.V.Values.is_small c.args.values c.requires.ok i less)
    (λ k less. g.met.W.Values.is_small c.args.next_values c.requires.next_ok k less) c.requires.next_packed (c.take_fit.ensures.taken is)
