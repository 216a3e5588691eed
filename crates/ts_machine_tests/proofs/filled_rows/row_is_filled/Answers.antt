use Rattle.std.proofs.Common.{◌≡◌, ◌*◌, ◌-◌, ◌+◌, length, sym, ap, ◌∙◌, subst, arith}
use Rattle.ts_bound.specs.NextRow.{RowStands}
use Rattle.ts_bound.specs.Rows.{row_at}
use Rattle.ts_glue.specs.Machines.{forward_of, window_of}
use Rattle.ts_machine_tests.proofs.FilledRows.{has_row, row_long, row_there_stands}
use Rattle.ts_machine_tests.proofs.filled_rows.row_is_filled.Goals as goal

pub rows-before-requires-clause-last : goal.rows-before-requires-clause-last
rows-before-requires-clause-last c =
    let first = c.requires.first in
    let few = (has_row c.forward-a.result.now (forward_of c.args.m.now) (window_of c.args.m.now) c.args.cells.now.present c.in_ok-filled.filled c.args.k
    c.forward-a.ensures c.requires.plain c.in_ok-filled.ensures (omega (arith, first)) c.requires.last).1 in omega (arith, first, few)

pub fill_row-requires-clause-before : goal.fill_row-requires-clause-before
fill_row-requires-clause-before c =
    let first = c.requires.first in let last = c.requires.last in
    ap length c.rows-before.ensures.first
    ∙ row_long c.forward-a.result.now (forward_of c.args.m.now) (window_of c.args.m.now) c.args.cells.now.present c.in_ok-filled.filled (c.args.k - 1)
    c.forward-a.ensures c.requires.plain c.in_ok-filled.ensures (omega (arith, first)) (omega (arith, last))
    ∙ ap (λ z. length z * length c.forward-a.result.now.states) (sym c.cell.ensures)

pub fill_row-requires-clause-next : goal.fill_row-requires-clause-next
fill_row-requires-clause-next c =
    let first = c.requires.first in
    let on : c.args.k - 1 + 1 ≡ c.args.k = omega (arith, first) in
    c.fill.ensures.len ∙ ap length c.rows-before.ensures.second ∙ ap (λ i. length (row_at i c.in_ok-filled.filled)) on
    ∙ row_long c.forward-a.result.now (forward_of c.args.m.now) (window_of c.args.m.now) c.args.cells.now.present c.in_ok-filled.filled c.args.k
    c.forward-a.ensures c.requires.plain c.in_ok-filled.ensures (omega (arith, first)) c.requires.last
    ∙ ap (λ z. length z * length c.forward-a.result.now.states) (sym c.cell-2.ensures)

pub fill_row-requires-clause-kinds : goal.fill_row-requires-clause-kinds
fill_row-requires-clause-kinds c =
    let first = c.requires.first in let last = c.requires.last in
    subst (RowStands c.forward-a.result.now c.cell.result.now) (sym c.rows-before.ensures.first)
    (subst (λ vs. RowStands c.forward-a.result.now vs (row_at (c.args.k - 1) c.in_ok-filled.filled)) (sym c.cell.ensures)
    (row_there_stands c.forward-a.result.now (forward_of c.args.m.now) (window_of c.args.m.now) c.args.cells.now.present c.in_ok-filled.filled
    (c.args.k - 1) c.forward-a.ensures c.requires.plain c.in_ok-filled.ensures (omega (arith, first)) (omega (arith, last)) c.states.ensures.rules))

pub row-requires : goal.row-requires
row-requires c =
    let first = c.requires.first in
    has_row c.forward-a.result.now (forward_of c.args.m.now) (window_of c.args.m.now) c.args.cells.now.present c.args.table.now c.args.k
    c.forward-a.ensures c.requires.plain c.requires.table (omega (arith, first)) c.requires.last
