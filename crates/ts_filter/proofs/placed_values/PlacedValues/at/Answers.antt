use mir.Val.{SFits}
use Rattle.std.proofs.Common.{◌≡◌, ◌<◌, ◌∙◌, ℤ, Some, length, slice_get, subst, sym, ap, rules, w64}
use Rattle.std.proofs.lemmas.Int.{to_z-of_z}
use Rattle.ts_filter.proofs.CellLaws.{some_left, walk_given, walk_goes_on}
use Rattle.ts_filter.proofs.placed_values.PlacedValues.at.Goals as goal

pub nth-requires : goal.nth-requires
nth-requires c = subst (λ l. c.args.i < length l) (sym c.self.view_is) c.requires

pub next_of-requires : goal.next_of-requires
next_of-requires c =
    let s = c.self.inside in
    some_left s.values.now c.in-Some.rest c.args.i (subst (λ l. c.args.i < length l) (sym c.self.view_is) c.requires)
    (walk_goes_on s.values.now s.last c.args.i s.rest c.in-Some.rest c.self.invariant c.in-Some.is (c.is_next-walks.ensures.0 c.if-not-walks.false))

pub invariant_of-self-in-Some : goal.invariant_of-self-in-Some
invariant_of-self-in-Some c =
    let s = c.self.inside in
    (walk_given s.values.now c.in-Some.rest _ c.args.i _
    (walk_goes_on s.values.now s.last c.args.i s.rest c.in-Some.rest c.self.invariant c.in-Some.is (c.is_next-walks.ensures.0 c.if-not-walks.false))
    c.next_of.ensures).1

pub returns-in-Some-clause-value : goal.returns-in-Some-clause-value
returns-in-Some-clause-value c =
    let s = c.self.inside in let fits : SFits w64 c.next_of.result = search rules in
    subst (λ l. slice_get l c.args.i ≡ Some c.next_of.result) c.self.view_is
    (walk_given s.values.now c.in-Some.rest _ c.args.i _
    (walk_goes_on s.values.now s.last c.args.i s.rest c.in-Some.rest c.self.invariant c.in-Some.is (c.is_next-walks.ensures.0 c.if-not-walks.false))
    c.next_of.ensures).0
    ∙ ap (λ (z : ℤ). Some z) (sym (to_z-of_z w64 c.next_of.result fits))

pub invariant_of-self-in-None : goal.invariant_of-self-in-None
invariant_of-self-in-None c =
    (walk_given c.self.inside.values.now c.values_from-rest.result _ c.args.i _ c.values_from-rest.ensures c.next_of-value.ensures).1

pub returns-in-None-clause-value : goal.returns-in-None-clause-value
returns-in-None-clause-value c =
    let fits : SFits w64 c.next_of-value.result = search rules in
    subst (λ l. slice_get l c.args.i ≡ Some c.next_of-value.result) c.self.view_is
    (walk_given c.self.inside.values.now c.values_from-rest.result _ c.args.i _ c.values_from-rest.ensures c.next_of-value.ensures).0
    ∙ ap (λ (z : ℤ). Some z) (sym (to_z-of_z w64 c.next_of-value.result fits))
