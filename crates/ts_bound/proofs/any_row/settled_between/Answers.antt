use Rattle.std.proofs.Common.{inl, inr, refl, rules, subst}
use Rattle.ts_meet.specs.Settled.{HavePlaces}
use Rattle.ts_bound.specs.declared.any_row.AnyView.{AnyView}
use Rattle.ts_bound.specs.AnyRows.{IsFormOf, columns, form_of, lanes_of, viewed}
use Rattle.ts_bound.proofs.any_row.settled_between.Goals as goal

pub settled_to-requires : goal.settled_to-requires
settled_to-requires g c =
    let joints = c.args.joints.now in let to = c.args.to in
    let left = subst (λ (z : AnyView). HavePlaces (lanes_of (viewed z)) joints.left_states to (columns (viewed z))) c.in-Narrow-Narrow.is-0 c.requires.left in
    let right = subst (λ (z : AnyView). HavePlaces (lanes_of (viewed z)) joints.right_states to (columns (viewed z)))
    c.in-Narrow-Narrow.is-1 c.requires.right in
    let width = subst (λ (z : AnyView). IsFormOf joints.wide (form_of (viewed z))) c.in-Narrow-Narrow.is-0 c.requires.width in
    (search rules, (search rules, (search rules, (search rules, (inl refl, (left, (right, c.requires.order)))))))

pub settled_to-requires-in-Upper-Upper : goal.settled_to-requires-in-Upper-Upper
settled_to-requires-in-Upper-Upper g c =
    let joints = c.args.joints.now in let to = c.args.to in
    let left = subst (λ (z : AnyView). HavePlaces (lanes_of (viewed z)) joints.left_states to (columns (viewed z))) c.in-Upper-Upper.is-0 c.requires.left in
    let right = subst (λ (z : AnyView). HavePlaces (lanes_of (viewed z)) joints.right_states to (columns (viewed z))) c.in-Upper-Upper.is-1 c.requires.right in
    let width = subst (λ (z : AnyView). IsFormOf joints.wide (form_of (viewed z))) c.in-Upper-Upper.is-0 c.requires.width in
    (search rules, (search rules, (search rules, (search rules, (inr width, (left, (right, c.requires.order)))))))

pub settled_to-requires-in-Lower-Lower : goal.settled_to-requires-in-Lower-Lower
settled_to-requires-in-Lower-Lower g c =
    let joints = c.args.joints.now in let to = c.args.to in
    let left = subst (λ (z : AnyView). HavePlaces (lanes_of (viewed z)) joints.left_states to (columns (viewed z))) c.in-Lower-Lower.is-0 c.requires.left in
    let right = subst (λ (z : AnyView). HavePlaces (lanes_of (viewed z)) joints.right_states to (columns (viewed z))) c.in-Lower-Lower.is-1 c.requires.right in
    let width = subst (λ (z : AnyView). IsFormOf joints.wide (form_of (viewed z))) c.in-Lower-Lower.is-0 c.requires.width in
    (search rules, (search rules, (search rules, (search rules, (inr width, (left, (right, c.requires.order)))))))

pub settled_to-requires-in-Wide-Wide : goal.settled_to-requires-in-Wide-Wide
settled_to-requires-in-Wide-Wide g c =
    let joints = c.args.joints.now in let to = c.args.to in
    let left = subst (λ (z : AnyView). HavePlaces (lanes_of (viewed z)) joints.left_states to (columns (viewed z))) c.in-Wide-Wide.is-0 c.requires.left in
    let right = subst (λ (z : AnyView). HavePlaces (lanes_of (viewed z)) joints.right_states to (columns (viewed z))) c.in-Wide-Wide.is-1 c.requires.right in
    let width = subst (λ (z : AnyView). IsFormOf joints.wide (form_of (viewed z))) c.in-Wide-Wide.is-0 c.requires.width in
    (search rules, (search rules, (search rules, (search rules, (inl refl, (left, (right, c.requires.order)))))))
