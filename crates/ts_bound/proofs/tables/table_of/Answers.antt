use Rattle.std.proofs.Common.{◌+◌, ◌-◌, length, sym, ap, ◌∙◌, arith}
use Rattle.ts_bound.specs.AnyRows.{form_sides, viewed}
use Rattle.ts_bound.specs.Looks.{first_looked, last_looked}
use Rattle.ts_bound.specs.PlainRows.{place_by, table_by}
use Rattle.ts_bound.specs.RowStacks.{hulls_in}
use Rattle.ts_bound.proofs.Filled.{filled_none, filled_whole, filled_with, last_or, made_is, side_by, sized, table_is}
use Rattle.ts_bound.proofs.Looking.{ends_inside}
use Rattle.ts_bound.proofs.tables.table_of.Goals as goal

pub loop-k-init : goal.loop-k-init
loop-k-init c =
    let a = c.args.a.now in let w = c.args.window in let cells = c.args.cells.now.present in let d = c.args.direction in
    let T = table_by d a w cells in let side = side_by a w cells c.requires d in let made = table_is a w cells c.requires d in
    let first = c.ends-first.ensures.first in let last = c.ends-first.ensures.last ∙ ap (last_looked w) c.cells.ensures.count in
    let bounds = ends_inside w (length cells) c.requires in let from = bounds.0 in let to = bounds.1 in (
      filled_none a w cells c.requires T side made _ c.in_ok-table.table c.ends-first.result.0 (c.ends-first.result.0 - 1) (omega (arith, first, from))
          c.states.ensures.count c.in_ok-table.ensures,
      omega arith,
    )

pub row-requires : goal.row-requires
row-requires c =
    let a = c.args.a.now in let w = c.args.window in let cells = c.args.cells.now.present in let d = c.args.direction in
    let T = table_by d a w cells in let side = side_by a w cells c.requires d in let made = table_is a w cells c.requires d in
    let first = c.ends-first.ensures.first in let last = c.ends-first.ensures.last ∙ ap (last_looked w) c.cells.ensures.count in
    let bounds = ends_inside w (length cells) c.requires in let from = bounds.0 in let to = bounds.1 in
    let k = c.loop-k.k in let f = c.loop-k.invariant.0 in let low = c.loop-k.invariant.1 in let more = c.loop-k-test.true in
    let row =
    made_is a w cells c.requires d (form_sides c.in_ok-rows.rows.planned.form) c.in_ok-rows.rows.known (k + 1) c.place_of-i.result
    c.in_ok-rows.ensures.both c.in_ok-rows.ensures.rows.known c.in_ok-rows.ensures.all (omega (arith, first, low)) (omega (arith, last, more))
    (c.place_of-i.ensures ∙ ap (λ n. place_by d n c.ends-first.result.1 (k + 1)) first ∙ ap (λ n. place_by d (first_looked w) n (k + 1)) last) in
    row.0

pub put_row-requires-clause-row : goal.put_row-requires-clause-row
put_row-requires-clause-row c =
    let a = c.args.a.now in let w = c.args.window in let cells = c.args.cells.now.present in let d = c.args.direction in
    let T = table_by d a w cells in let side = side_by a w cells c.requires d in let made = table_is a w cells c.requires d in
    let first = c.ends-first.ensures.first in let last = c.ends-first.ensures.last ∙ ap (last_looked w) c.cells.ensures.count in
    let bounds = ends_inside w (length cells) c.requires in let from = bounds.0 in let to = bounds.1 in
    let k = c.loop-k.k in let f = c.loop-k.invariant.0 in let low = c.loop-k.invariant.1 in let more = c.loop-k-test.true in
    let long = f.long ∙ made.long in (omega arith, omega (arith, long, last, to, more))

pub put_row-requires-clause-len : goal.put_row-requires-clause-len
put_row-requires-clause-len c =
    let a = c.args.a.now in let w = c.args.window in let cells = c.args.cells.now.present in let d = c.args.direction in
    let T = table_by d a w cells in let side = side_by a w cells c.requires d in let made = table_is a w cells c.requires d in
    let first = c.ends-first.ensures.first in let last = c.ends-first.ensures.last ∙ ap (last_looked w) c.cells.ensures.count in
    let bounds = ends_inside w (length cells) c.requires in let from = bounds.0 in let to = bounds.1 in
    let k = c.loop-k.k in let f = c.loop-k.invariant.0 in let low = c.loop-k.invariant.1 in let more = c.loop-k-test.true in
    let row =
    made_is a w cells c.requires d (form_sides c.in_ok-rows.rows.planned.form) c.in_ok-rows.rows.known (k + 1) c.place_of-i.result
    c.in_ok-rows.ensures.both c.in_ok-rows.ensures.rows.known c.in_ok-rows.ensures.all (omega (arith, first, low)) (omega (arith, last, more))
    (c.place_of-i.ensures ∙ ap (λ n. place_by d n c.ends-first.result.1 (k + 1)) first ∙ ap (λ n. place_by d (first_looked w) n (k + 1)) last) in
    let here = ap (λ s. hulls_in s (viewed c.row.result)) (c.states-in-loop-k.ensures.count ∙ sym c.in_ok-rows.ensures.rows.planned.states)
    ∙ c.row.ensures.hulls ∙ row.1 in
    sized a w cells c.requires T side made c.loop-k.table c.ends-first.result.0 k (k + 1) f (omega arith) (omega (arith, last, to, more))
    ∙ sym (ap length here)

pub loop-k-preserved : goal.loop-k-preserved
loop-k-preserved c =
    let a = c.args.a.now in let w = c.args.window in let cells = c.args.cells.now.present in let d = c.args.direction in
    let T = table_by d a w cells in let side = side_by a w cells c.requires d in let made = table_is a w cells c.requires d in
    let first = c.ends-first.ensures.first in let last = c.ends-first.ensures.last ∙ ap (last_looked w) c.cells.ensures.count in
    let bounds = ends_inside w (length cells) c.requires in let from = bounds.0 in let to = bounds.1 in
    let k = c.loop-k.k in let f = c.loop-k.invariant.0 in let low = c.loop-k.invariant.1 in let more = c.loop-k-test.true in
    let row =
    made_is a w cells c.requires d (form_sides c.in_ok-rows.rows.planned.form) c.in_ok-rows.rows.known (k + 1) c.place_of-i.result
    c.in_ok-rows.ensures.both c.in_ok-rows.ensures.rows.known c.in_ok-rows.ensures.all (omega (arith, first, low)) (omega (arith, last, more))
    (c.place_of-i.ensures ∙ ap (λ n. place_by d n c.ends-first.result.1 (k + 1)) first ∙ ap (λ n. place_by d (first_looked w) n (k + 1)) last) in
    let here = ap (λ s. hulls_in s (viewed c.row.result)) (c.states-in-loop-k.ensures.count ∙ sym c.in_ok-rows.ensures.rows.planned.states)
    ∙ c.row.ensures.hulls ∙ row.1 in
    let all = made.long in (
      filled_with T c.loop-k.table c.put_row.new.table c.ends-first.result.0 k c.ends-first.result.0 (k + 1) (k + 1) _ f (omega arith)
          (omega (arith, all, last, to, more)) c.put_row.ensures here (last_or c.ends-first.result.0 k),
      omega (arith, low),
    )

pub returns : goal.returns
returns c =
    let a = c.args.a.now in let w = c.args.window in let cells = c.args.cells.now.present in let d = c.args.direction in
    let T = table_by d a w cells in let side = side_by a w cells c.requires d in let made = table_is a w cells c.requires d in
    let first = c.ends-first.ensures.first in let last = c.ends-first.ensures.last ∙ ap (last_looked w) c.cells.ensures.count in
    let bounds = ends_inside w (length cells) c.requires in let from = bounds.0 in let to = bounds.1 in
    filled_whole a w cells c.requires T side made c.loop-k.table c.ends-first.result.0 c.loop-k.k (omega (arith, first))
    (omega (arith, last, c.loop-k-test.false)) c.loop-k.invariant.0
