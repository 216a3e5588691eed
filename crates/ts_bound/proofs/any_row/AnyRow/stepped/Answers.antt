use Rattle.std.proofs.Common.{length, rules, subst}
use Rattle.ts_row.specs.Rows.{IsRow}
use Rattle.ts_row.specs.Takings.{count_in}
use Rattle.ts_bound.specs.declared.any_row.AnyRow.{AnyRow}
use Rattle.ts_bound.specs.declared.any_row.AnyView.{AnyView}
use Rattle.ts_bound.specs.AnyRows.{IsFormOf, IsRowOf, columns, form_of, lanes_of, viewed}
use Rattle.ts_bound.proofs.any_row.AnyRow.stepped.Goals as goal

pub next_packed_row-requires : goal.next_packed_row-requires
next_packed_row-requires c =
    let a = c.args.a.now in
    let width = subst (λ (z : AnyRow). IsFormOf a.wide (form_of z)) c.in-Narrow-Narrow.is-0 c.requires.width in
    let row = subst (λ (z : AnyView). IsRow (lanes_of (viewed z)) (length a.states) (count_in c.args.values) (columns (viewed z)))
    c.in-Narrow-Narrow.is-1 c.requires.row in
    (search rules, (search rules, (width, (search rules, (search rules, (c.requires.plan, row))))))

pub next_packed_row-requires-in-Upper-Upper : goal.next_packed_row-requires-in-Upper-Upper
next_packed_row-requires-in-Upper-Upper c =
    let a = c.args.a.now in
    let width = subst (λ (z : AnyRow). IsFormOf a.wide (form_of z)) c.in-Upper-Upper.is-0 c.requires.width in
    let row = subst (λ (z : AnyView). IsRow (lanes_of (viewed z)) (length a.states) (count_in c.args.values) (columns (viewed z)))
    c.in-Upper-Upper.is-1 c.requires.row in
    (search rules, (search rules, (width, (search rules, (search rules, (c.requires.plan, row))))))

pub next_packed_row-requires-in-Lower-Lower : goal.next_packed_row-requires-in-Lower-Lower
next_packed_row-requires-in-Lower-Lower c =
    let a = c.args.a.now in
    let width = subst (λ (z : AnyRow). IsFormOf a.wide (form_of z)) c.in-Lower-Lower.is-0 c.requires.width in
    let row = subst (λ (z : AnyView). IsRow (lanes_of (viewed z)) (length a.states) (count_in c.args.values) (columns (viewed z)))
    c.in-Lower-Lower.is-1 c.requires.row in
    (search rules, (search rules, (width, (search rules, (search rules, (c.requires.plan, row))))))

pub next_packed_row-requires-in-Wide-Wide : goal.next_packed_row-requires-in-Wide-Wide
next_packed_row-requires-in-Wide-Wide c =
    let a = c.args.a.now in
    let width = subst (λ (z : AnyRow). IsFormOf a.wide (form_of z)) c.in-Wide-Wide.is-0 c.requires.width in
    let row = subst (λ (z : AnyView). IsRow (lanes_of (viewed z)) (length a.states) (count_in c.args.values) (columns (viewed z)))
    c.in-Wide-Wide.is-1 c.requires.row in
    (search rules, (search rules, (width, (search rules, (search rules, (c.requires.plan, row))))))

pub returns-in_ok-next_packed_row-in-Narrow-Narrow-clause-row : goal.returns-in_ok-next_packed_row-in-Narrow-Narrow-clause-row
returns-in_ok-next_packed_row-in-Narrow-Narrow-clause-row c = λ cells is.
    let before = subst (λ (z : AnyView). IsRowOf c.args.a.now cells c.args.values.values.now (viewed z)) c.in-Narrow-Narrow.is-1 is in
    record {
      width = subst (λ (z : AnyRow). IsFormOf c.args.a.now.wide (form_of z)) c.in-Narrow-Narrow.is-0 c.requires.width;
      packed = c.in_ok-next_packed_row-in-Narrow-Narrow.ensures cells before.packed;
    }

pub returns-in_ok-next_packed_row-in-Upper-Upper-clause-row : goal.returns-in_ok-next_packed_row-in-Upper-Upper-clause-row
returns-in_ok-next_packed_row-in-Upper-Upper-clause-row c = λ cells is.
    let before = subst (λ (z : AnyView). IsRowOf c.args.a.now cells c.args.values.values.now (viewed z)) c.in-Upper-Upper.is-1 is in
    record {
      width = subst (λ (z : AnyRow). IsFormOf c.args.a.now.wide (form_of z)) c.in-Upper-Upper.is-0 c.requires.width;
      packed = c.in_ok-next_packed_row-in-Upper-Upper.ensures cells before.packed;
    }

pub returns-in_ok-next_packed_row-in-Lower-Lower-clause-row : goal.returns-in_ok-next_packed_row-in-Lower-Lower-clause-row
returns-in_ok-next_packed_row-in-Lower-Lower-clause-row c = λ cells is.
    let before = subst (λ (z : AnyView). IsRowOf c.args.a.now cells c.args.values.values.now (viewed z)) c.in-Lower-Lower.is-1 is in
    record {
      width = subst (λ (z : AnyRow). IsFormOf c.args.a.now.wide (form_of z)) c.in-Lower-Lower.is-0 c.requires.width;
      packed = c.in_ok-next_packed_row-in-Lower-Lower.ensures cells before.packed;
    }

pub returns-in_ok-next_packed_row-in-Wide-Wide-clause-row : goal.returns-in_ok-next_packed_row-in-Wide-Wide-clause-row
returns-in_ok-next_packed_row-in-Wide-Wide-clause-row c = λ cells is.
    let before = subst (λ (z : AnyView). IsRowOf c.args.a.now cells c.args.values.values.now (viewed z)) c.in-Wide-Wide.is-1 is in
    record {
      width = subst (λ (z : AnyRow). IsFormOf c.args.a.now.wide (form_of z)) c.in-Wide-Wide.is-0 c.requires.width;
      packed = c.in_ok-next_packed_row-in-Wide-Wide.ensures cells before.packed;
    }
