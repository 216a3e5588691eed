use Rattle.std.proofs.Common.{◌≡◌, ◌+◌, pos, get_or, length, inl, inr, refl, rules, sym, subst}
use Rattle.ts_base.specs.Spans.{span_hull}
use Rattle.ts_meet.specs.Along.{hull_over}
use Rattle.ts_meet.specs.Asked.{IsAnswer}
use Rattle.ts_meet.specs.Settled.{HavePlaces}
use Rattle.ts_bound.specs.declared.any_row.AnyView.{AnyView}
use Rattle.ts_bound.specs.AnyRows.{IsFormOf, columns, form_of, glued_between, lanes_of, viewed}
use Rattle.ts_bound.proofs.any_row.asked_values.Goals as goal

pub asked_along-requires : goal.asked_along-requires
asked_along-requires g c =
    let joints = c.args.joints.now in let to = c.args.from + length c.args.values.now in
    let left = subst (λ (z : AnyView). HavePlaces (lanes_of (viewed z)) joints.left_states to (columns (viewed z))) c.in-Narrow-Narrow.is-0 c.requires.left in
    let right = subst (λ (z : AnyView). HavePlaces (lanes_of (viewed z)) joints.right_states to (columns (viewed z)))
    c.in-Narrow-Narrow.is-1 c.requires.right in
    let width = subst (λ (z : AnyView). IsFormOf joints.wide (form_of (viewed z))) c.in-Narrow-Narrow.is-0 c.requires.width in
    (search rules, (search rules, (search rules, (search rules, (inl refl, (left, (right, c.requires.values)))))))

pub asked_along-requires-in-Upper-Upper : goal.asked_along-requires-in-Upper-Upper
asked_along-requires-in-Upper-Upper g c =
    let joints = c.args.joints.now in let to = c.args.from + length c.args.values.now in
    let left = subst (λ (z : AnyView). HavePlaces (lanes_of (viewed z)) joints.left_states to (columns (viewed z))) c.in-Upper-Upper.is-0 c.requires.left in
    let right = subst (λ (z : AnyView). HavePlaces (lanes_of (viewed z)) joints.right_states to (columns (viewed z)))
    c.in-Upper-Upper.is-1 c.requires.right in
    let width = subst (λ (z : AnyView). IsFormOf joints.wide (form_of (viewed z))) c.in-Upper-Upper.is-0 c.requires.width in
    (search rules, (search rules, (search rules, (search rules, (inr width, (left, (right, c.requires.values)))))))

pub asked_along-requires-in-Lower-Lower : goal.asked_along-requires-in-Lower-Lower
asked_along-requires-in-Lower-Lower g c =
    let joints = c.args.joints.now in let to = c.args.from + length c.args.values.now in
    let left = subst (λ (z : AnyView). HavePlaces (lanes_of (viewed z)) joints.left_states to (columns (viewed z))) c.in-Lower-Lower.is-0 c.requires.left in
    let right = subst (λ (z : AnyView). HavePlaces (lanes_of (viewed z)) joints.right_states to (columns (viewed z)))
    c.in-Lower-Lower.is-1 c.requires.right in
    let width = subst (λ (z : AnyView). IsFormOf joints.wide (form_of (viewed z))) c.in-Lower-Lower.is-0 c.requires.width in
    (search rules, (search rules, (search rules, (search rules, (inr width, (left, (right, c.requires.values)))))))

pub asked_along-requires-in-Wide-Wide : goal.asked_along-requires-in-Wide-Wide
asked_along-requires-in-Wide-Wide g c =
    let joints = c.args.joints.now in let to = c.args.from + length c.args.values.now in
    let left = subst (λ (z : AnyView). HavePlaces (lanes_of (viewed z)) joints.left_states to (columns (viewed z))) c.in-Wide-Wide.is-0 c.requires.left in
    let right = subst (λ (z : AnyView). HavePlaces (lanes_of (viewed z)) joints.right_states to (columns (viewed z)))
    c.in-Wide-Wide.is-1 c.requires.right in
    let width = subst (λ (z : AnyView). IsFormOf joints.wide (form_of (viewed z))) c.in-Wide-Wide.is-0 c.requires.width in
    (search rules, (search rules, (search rules, (search rules, (inl refl, (left, (right, c.requires.values)))))))

-- what holds of both views in their forms holds of them as they are given
told_of_both : (Told : AnyView → AnyView → Type 0) (a b c d : AnyView) → a ≡ b → c ≡ d → Told b d → Told a c
told_of_both Told a b c d first second told = subst (λ z. Told z c) (sym first) (subst (Told b) (sym second) told)

pub returns-in-Narrow-Narrow : goal.returns-in-Narrow-Narrow
returns-in-Narrow-Narrow g c p h =
    let a = c.args in let values = c.args.values.now in
    told_of_both
    (λ left right. IsAnswer (g.Q.Asked.excluded a.asked)
    (span_hull a.so_far (hull_over (λ i. glued_between p (viewed left) (viewed right) (a.from + i) (get_or values i (pos 0)) a.cells) (length values)))
    c.asked_along.result)
    _ _ _ _ c.in-Narrow-Narrow.is-0 c.in-Narrow-Narrow.is-1 (c.asked_along.ensures p h)

pub returns-in-Upper-Upper : goal.returns-in-Upper-Upper
returns-in-Upper-Upper g c p h =
    let a = c.args in let values = c.args.values.now in
    told_of_both
    (λ left right. IsAnswer (g.Q.Asked.excluded a.asked)
    (span_hull a.so_far (hull_over (λ i. glued_between p (viewed left) (viewed right) (a.from + i) (get_or values i (pos 0)) a.cells) (length values)))
    c.asked_along-in-Upper-Upper.result)
    _ _ _ _ c.in-Upper-Upper.is-0 c.in-Upper-Upper.is-1 (c.asked_along-in-Upper-Upper.ensures p h)

pub returns-in-Lower-Lower : goal.returns-in-Lower-Lower
returns-in-Lower-Lower g c p h =
    let a = c.args in let values = c.args.values.now in
    told_of_both
    (λ left right. IsAnswer (g.Q.Asked.excluded a.asked)
    (span_hull a.so_far (hull_over (λ i. glued_between p (viewed left) (viewed right) (a.from + i) (get_or values i (pos 0)) a.cells) (length values)))
    c.asked_along-in-Lower-Lower.result)
    _ _ _ _ c.in-Lower-Lower.is-0 c.in-Lower-Lower.is-1 (c.asked_along-in-Lower-Lower.ensures p h)

pub returns-in-Wide-Wide : goal.returns-in-Wide-Wide
returns-in-Wide-Wide g c p h =
    let a = c.args in let values = c.args.values.now in
    told_of_both
    (λ left right. IsAnswer (g.Q.Asked.excluded a.asked)
    (span_hull a.so_far (hull_over (λ i. glued_between p (viewed left) (viewed right) (a.from + i) (get_or values i (pos 0)) a.cells) (length values)))
    c.asked_along-in-Wide-Wide.result)
    _ _ _ _ c.in-Wide-Wide.is-0 c.in-Wide-Wide.is-1 (c.asked_along-in-Wide-Wide.ensures p h)
