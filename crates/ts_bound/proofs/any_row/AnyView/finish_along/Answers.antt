use Rattle.std.proofs.Common.{◌+◌, ◌∙◌, ap, inl, inr, length, refl, rules, subst, sym}
use Rattle.ts_meet.specs.Along.{finish_along}
use Rattle.ts_meet.specs.Settled.{HavePlaces}
use Rattle.ts_bound.specs.declared.any_row.AnyView.{AnyView}
use Rattle.ts_bound.specs.AnyRows.{IsFormOf, columns, form_of, lanes_of, viewed}
use Rattle.ts_bound.proofs.any_row.AnyView.finish_along.Goals as goal

pub finish_along-requires : goal.finish_along-requires
finish_along-requires c =
    let places = subst (λ (z : AnyView). HavePlaces (lanes_of (viewed z)) (length c.args.a.now.states) (c.args.from + c.args.count) (columns (viewed z)))
    c.in-Narrow.is c.requires.places in
    (search rules, (search rules, (search rules, (inl refl, places))))

pub finish_along-requires-in-Upper : goal.finish_along-requires-in-Upper
finish_along-requires-in-Upper c =
    let width = subst (λ (z : AnyView). IsFormOf c.args.a.now.wide (form_of (viewed z))) c.in-Upper.is c.requires.width in
    let places = subst (λ (z : AnyView). HavePlaces (lanes_of (viewed z)) (length c.args.a.now.states) (c.args.from + c.args.count) (columns (viewed z)))
    c.in-Upper.is c.requires.places in
    (search rules, (search rules, (search rules, (inr width, places))))

pub finish_along-requires-in-Lower : goal.finish_along-requires-in-Lower
finish_along-requires-in-Lower c =
    let width = subst (λ (z : AnyView). IsFormOf c.args.a.now.wide (form_of (viewed z))) c.in-Lower.is c.requires.width in
    let places = subst (λ (z : AnyView). HavePlaces (lanes_of (viewed z)) (length c.args.a.now.states) (c.args.from + c.args.count) (columns (viewed z)))
    c.in-Lower.is c.requires.places in
    (search rules, (search rules, (search rules, (inr width, places))))

pub finish_along-requires-in-Wide : goal.finish_along-requires-in-Wide
finish_along-requires-in-Wide c =
    let places = subst (λ (z : AnyView). HavePlaces (lanes_of (viewed z)) (length c.args.a.now.states) (c.args.from + c.args.count) (columns (viewed z)))
    c.in-Wide.is c.requires.places in
    (search rules, (search rules, (search rules, (inl refl, places))))

pub returns-in-Narrow : goal.returns-in-Narrow
returns-in-Narrow c =
    c.finish_along.ensures
    ∙ ap (λ (z : AnyView). finish_along (lanes_of (viewed z)) c.args.a.now (columns (viewed z)) c.args.from c.args.count c.args.n) (sym c.in-Narrow.is)

pub returns-in-Upper : goal.returns-in-Upper
returns-in-Upper c =
    c.finish_along-in-Upper.ensures
    ∙ ap (λ (z : AnyView). finish_along (lanes_of (viewed z)) c.args.a.now (columns (viewed z)) c.args.from c.args.count c.args.n) (sym c.in-Upper.is)

pub returns-in-Lower : goal.returns-in-Lower
returns-in-Lower c =
    c.finish_along-in-Lower.ensures
    ∙ ap (λ (z : AnyView). finish_along (lanes_of (viewed z)) c.args.a.now (columns (viewed z)) c.args.from c.args.count c.args.n) (sym c.in-Lower.is)

pub returns-in-Wide : goal.returns-in-Wide
returns-in-Wide c =
    c.finish_along-in-Wide.ensures
    ∙ ap (λ (z : AnyView). finish_along (lanes_of (viewed z)) c.args.a.now (columns (viewed z)) c.args.from c.args.count c.args.n) (sym c.in-Wide.is)
