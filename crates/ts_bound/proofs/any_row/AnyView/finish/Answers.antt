use Rattle.std.proofs.Common.{◌∙◌, ap, inl, inr, length, refl, rules, subst, sym}
use Rattle.ts_meet.specs.Meets.{HasPlace, finish_hull}
use Rattle.ts_bound.specs.declared.any_row.AnyView.{AnyView}
use Rattle.ts_bound.specs.AnyRows.{IsFormOf, columns, form_of, lanes_of, viewed}
use Rattle.ts_bound.proofs.any_row.AnyView.finish.Goals as goal

pub finish_at-requires : goal.finish_at-requires
finish_at-requires c =
    let place = subst (λ (z : AnyView). HasPlace (lanes_of (viewed z)) (length c.args.a.now.states) c.args.i (columns (viewed z)))
    c.in-Narrow.is c.requires.place in
    (search rules, (search rules, (search rules, (inl refl, place))))

pub finish_at-requires-in-Upper : goal.finish_at-requires-in-Upper
finish_at-requires-in-Upper c =
    let width = subst (λ (z : AnyView). IsFormOf c.args.a.now.wide (form_of (viewed z))) c.in-Upper.is c.requires.width in
    let place = subst (λ (z : AnyView). HasPlace (lanes_of (viewed z)) (length c.args.a.now.states) c.args.i (columns (viewed z)))
    c.in-Upper.is c.requires.place in
    (search rules, (search rules, (search rules, (inr width, place))))

pub finish_at-requires-in-Lower : goal.finish_at-requires-in-Lower
finish_at-requires-in-Lower c =
    let width = subst (λ (z : AnyView). IsFormOf c.args.a.now.wide (form_of (viewed z))) c.in-Lower.is c.requires.width in
    let place = subst (λ (z : AnyView). HasPlace (lanes_of (viewed z)) (length c.args.a.now.states) c.args.i (columns (viewed z)))
    c.in-Lower.is c.requires.place in
    (search rules, (search rules, (search rules, (inr width, place))))

pub finish_at-requires-in-Wide : goal.finish_at-requires-in-Wide
finish_at-requires-in-Wide c =
    let place = subst (λ (z : AnyView). HasPlace (lanes_of (viewed z)) (length c.args.a.now.states) c.args.i (columns (viewed z)))
    c.in-Wide.is c.requires.place in
    (search rules, (search rules, (search rules, (inl refl, place))))

pub returns-in-Narrow : goal.returns-in-Narrow
returns-in-Narrow c =
    c.finish_at.ensures
    ∙ ap (λ (z : AnyView). finish_hull (lanes_of (viewed z)) c.args.a.now (columns (viewed z)) c.args.i c.args.n) (sym c.in-Narrow.is)

pub returns-in-Upper : goal.returns-in-Upper
returns-in-Upper c =
    c.finish_at-in-Upper.ensures
    ∙ ap (λ (z : AnyView). finish_hull (lanes_of (viewed z)) c.args.a.now (columns (viewed z)) c.args.i c.args.n) (sym c.in-Upper.is)

pub returns-in-Lower : goal.returns-in-Lower
returns-in-Lower c =
    c.finish_at-in-Lower.ensures
    ∙ ap (λ (z : AnyView). finish_hull (lanes_of (viewed z)) c.args.a.now (columns (viewed z)) c.args.i c.args.n) (sym c.in-Lower.is)

pub returns-in-Wide : goal.returns-in-Wide
returns-in-Wide c =
    c.finish_at-in-Wide.ensures
    ∙ ap (λ (z : AnyView). finish_hull (lanes_of (viewed z)) c.args.a.now (columns (viewed z)) c.args.i c.args.n) (sym c.in-Wide.is)
