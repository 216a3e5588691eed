use Rattle.std.proofs.Common.{subst, ◌∙◌, arith}
use Rattle.ts_sweep.specs.Moves.{IsFrontOf, IsClosingOf}
use Rattle.ts_sweep.specs.Sides.{count_by, lanes_by}
use Rattle.ts_sweep.specs.SidesLaws.{full, full_count}
use Rattle.ts_sweep.proofs.Places.{columns_long}
use Rattle.ts_sweep.proofs.Rows.{column_fit, row_is}
use Rattle.ts_sweep.proofs.row.take_row.Goals as goal

pub take-requires-clause-same : goal.take-requires-clause-same
take-requires-clause-same g c =
    let from = c.args.from in
    columns_long from.states from.state from.count c.args.before.now ∙ c.requires.count

pub take-requires-clause-fit : goal.take-requires-clause-fit
take-requires-clause-fit g c =
    let from = c.args.from in
    let counted = c.requires.count in
    λ i lt. column_fit g.row.N c.requires.registers (g.F.Fronts.fit c.args.by) from.states from.state from.count c.args.before.now
    (c.row_fits.ensures c.if-not-row_fits.false) i (omega (arith, lt, counted))

pub take-requires-clause-next_same : goal.take-requires-clause-next_same
take-requires-clause-next_same g c =
    let to = c.args.to in
    columns_long to.states to.state to.count c.args.next.now ∙ c.requires.next_count

pub returns-clause-taken : goal.returns-clause-taken
returns-clause-taken g c =
    let from = c.args.from in
    let to = c.args.to in
    let by = c.args.by in
    let counted = c.requires.count in
    let next_counted = c.requires.next_count in
    let n = g.row.N in
    λ is m gives leads cut_is swept gives_is.
    row_is g.row.N c.requires.registers (g.F.Fronts.fit by) (g.F.Fronts.closable by) (g.F.Fronts.front by) (g.F.Fronts.closing by) (g.F.Moves.cut by)
    (g.met.F.Fronts.closable_none by) (g.met.F.Fronts.closable_both by) (g.met.F.Fronts.closable_front by)
    (λ h v f small. subst (λ s. IsFrontOf s (g.F.Moves.cut by) (count_by s n) (lanes_by s h.at) v (lanes_by s (g.F.Fronts.front by h v).at))
    (full n c.requires.registers) (g.met.F.Moves.front_is by h v (full_count n c.requires.registers) f small))
    (λ h w f small. subst (λ s. IsClosingOf s (g.F.Moves.cut by) (count_by s n) (lanes_by s h.at) w (lanes_by s (g.F.Fronts.closing by h w).at))
    (full n c.requires.registers) (g.met.F.Moves.closing_is by h w (full_count n c.requires.registers) f small))
    m c.args.letter c.args.twin from.states from.state from.count to.state to.states to.count c.args.before.now c.args.next.now _
    (g.V.Values.value c.args.values) (g.W.Values.value c.args.next_values) gives cut_is swept leads c.requires.next_state c.requires.next_whole
    c.requires.canonical c.requires.packable (c.row_fits.ensures c.if-not-row_fits.false)
    (λ i lt. g.met.V.Values.is_small c.args.values c.requires.ok i (omega (arith, lt, counted)))
    (λ j lt. g.met.W.Values.is_small c.args.next_values c.requires.next_ok j (omega (arith, lt, next_counted)))
    c.take.ensures.taken c.take.ensures.beside gives_is
