use Rattle.std.proofs.Common.{inl, inr, refl, rules, subst}
use Rattle.ts_meet.specs.Meets.{HasPlace}
use Rattle.ts_bound.specs.declared.any_row.AnyView.{AnyView}
use Rattle.ts_bound.specs.AnyRows.{IsFormOf, columns, form_of, lanes_of, viewed}
use Rattle.ts_bound.proofs.any_row.asked_between.Goals as goal

pub asked_at-requires : goal.asked_at-requires
asked_at-requires g c =
    let joints = c.args.joints.now in let i = c.args.spot.place in
    let left = subst (λ (z : AnyView). HasPlace (lanes_of (viewed z)) joints.left_states i (columns (viewed z))) c.in-Narrow-Narrow.is-0 c.requires.left in
    let right = subst (λ (z : AnyView). HasPlace (lanes_of (viewed z)) joints.right_states i (columns (viewed z))) c.in-Narrow-Narrow.is-1 c.requires.right in
    let width = subst (λ (z : AnyView). IsFormOf joints.wide (form_of (viewed z))) c.in-Narrow-Narrow.is-0 c.requires.width in
    (search rules, (search rules, (search rules, (search rules, (inl refl, (c.requires.whole, (c.requires.known, (left, (right, c.requires.value)))))))))

pub asked_at-requires-in-Upper-Upper : goal.asked_at-requires-in-Upper-Upper
asked_at-requires-in-Upper-Upper g c =
    let joints = c.args.joints.now in let i = c.args.spot.place in
    let left = subst (λ (z : AnyView). HasPlace (lanes_of (viewed z)) joints.left_states i (columns (viewed z))) c.in-Upper-Upper.is-0 c.requires.left in
    let right = subst (λ (z : AnyView). HasPlace (lanes_of (viewed z)) joints.right_states i (columns (viewed z))) c.in-Upper-Upper.is-1 c.requires.right in
    let width = subst (λ (z : AnyView). IsFormOf joints.wide (form_of (viewed z))) c.in-Upper-Upper.is-0 c.requires.width in
    (search rules, (search rules, (search rules, (search rules, (inr width, (c.requires.whole, (c.requires.known, (left, (right, c.requires.value)))))))))

pub asked_at-requires-in-Lower-Lower : goal.asked_at-requires-in-Lower-Lower
asked_at-requires-in-Lower-Lower g c =
    let joints = c.args.joints.now in let i = c.args.spot.place in
    let left = subst (λ (z : AnyView). HasPlace (lanes_of (viewed z)) joints.left_states i (columns (viewed z))) c.in-Lower-Lower.is-0 c.requires.left in
    let right = subst (λ (z : AnyView). HasPlace (lanes_of (viewed z)) joints.right_states i (columns (viewed z))) c.in-Lower-Lower.is-1 c.requires.right in
    let width = subst (λ (z : AnyView). IsFormOf joints.wide (form_of (viewed z))) c.in-Lower-Lower.is-0 c.requires.width in
    (search rules, (search rules, (search rules, (search rules, (inr width, (c.requires.whole, (c.requires.known, (left, (right, c.requires.value)))))))))

pub asked_at-requires-in-Wide-Wide : goal.asked_at-requires-in-Wide-Wide
asked_at-requires-in-Wide-Wide g c =
    let joints = c.args.joints.now in let i = c.args.spot.place in
    let left = subst (λ (z : AnyView). HasPlace (lanes_of (viewed z)) joints.left_states i (columns (viewed z))) c.in-Wide-Wide.is-0 c.requires.left in
    let right = subst (λ (z : AnyView). HasPlace (lanes_of (viewed z)) joints.right_states i (columns (viewed z))) c.in-Wide-Wide.is-1 c.requires.right in
    let width = subst (λ (z : AnyView). IsFormOf joints.wide (form_of (viewed z))) c.in-Wide-Wide.is-0 c.requires.width in
    (search rules, (search rules, (search rules, (search rules, (inl refl, (c.requires.whole, (c.requires.known, (left, (right, c.requires.value)))))))))
