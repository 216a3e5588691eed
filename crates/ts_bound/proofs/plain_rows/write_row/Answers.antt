use Rattle.std.proofs.Common.{◌≡◌, length, sym, ap, ◌∙◌, subst, rules}
use Rattle.ts_row.specs.Rows.{IsRow}
use Rattle.ts_bound.specs.declared.any_row.AnyView.{AnyView}
use Rattle.ts_bound.specs.AnyRows.{columns, lanes_of, viewed}
use Rattle.ts_bound.specs.RowStacks.{hulls_in, values_in}
use Rattle.ts_bound.proofs.plain_rows.write_row.Goals as goal

pub write_hulls-requires : goal.write_hulls-requires
write_hulls-requires c =
    let row = subst (λ (z : AnyView). IsRow (lanes_of (viewed z)) c.args.states (values_in (viewed z)) (columns (viewed z)))
    c.in-Narrow.is c.requires.plain.is_row in
    let len = subst (λ (z : AnyView). length c.args.row.now ≡ length (hulls_in c.args.states (viewed z))) c.in-Narrow.is c.requires.len in
    (search rules, (search rules, (search rules, (c.requires.plain.some, (row, len)))))

pub write_hulls-requires-in-Wide : goal.write_hulls-requires-in-Wide
write_hulls-requires-in-Wide c =
    let row = subst (λ (z : AnyView). IsRow (lanes_of (viewed z)) c.args.states (values_in (viewed z)) (columns (viewed z)))
    c.in-Wide.is c.requires.plain.is_row in
    let len = subst (λ (z : AnyView). length c.args.row.now ≡ length (hulls_in c.args.states (viewed z))) c.in-Wide.is c.requires.len in
    (search rules, (search rules, (search rules, (c.requires.plain.some, (row, len)))))

pub returns-in-Narrow : goal.returns-in-Narrow
returns-in-Narrow c = c.write_hulls.ensures ∙ ap (λ (z : AnyView). hulls_in c.args.states (viewed z)) (sym c.in-Narrow.is)

pub returns-in-Wide : goal.returns-in-Wide
returns-in-Wide c = c.write_hulls-in-Wide.ensures ∙ ap (λ (z : AnyView). hulls_in c.args.states (viewed z)) (sym c.in-Wide.is)
