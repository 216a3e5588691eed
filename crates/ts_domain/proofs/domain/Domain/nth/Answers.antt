use Rattle.std.proofs.Common.{pos, neg_ℤ, Some, arith, sym, ap, ◌∙◌}
use Rattle.std.proofs.lemmas.Int.{ints, to_z-of_z}
use mir.Syntax.{w64}
use Rattle.ts_domain.proofs.MarkedSets.{marks_over, place_below, place_is}
use Rattle.ts_domain.proofs.Stretches.{range_place, range_few}
use Rattle.ts_domain.proofs.domain.Domain.nth.Goals as goal

pub overflow_cast-result : goal.overflow_cast-result
overflow_cast-result c =
    let r = c.in-Some.ensures in let few = range_few c.args.self.now c.in-Some.range c.args.i r c.requires in
    omega (arith, ints, few, r.from, r.to)

pub overflow_add-result : goal.overflow_add-result
overflow_add-result c =
    let r = c.in-Some.ensures in let few = range_few c.args.self.now c.in-Some.range c.args.i r c.requires in
    omega (arith, ints, few, r.from, r.to)

pub returns-in-Some : goal.returns-in-Some
returns-in-Some c =
    let r = c.in-Some.ensures in let few = range_few c.args.self.now c.in-Some.range c.args.i r c.requires in
    range_place c.args.self.now c.in-Some.range c.args.i r c.requires ∙ ap (λ v. Some v) (omega (arith, ints, few, r.from, r.to))

pub nth_above-requires-clause-above : goal.nth_above-requires-clause-above
nth_above-requires-clause-above c =
    marks_over c.self.inside.ranges.value.items.items c.self.inside.piece c.self.inside.marks _ c.self.view_is c.self.invariant
    (neg_ℤ (pos 1000001)) (omega (arith, ints))

pub nth_above-requires-clause-below : goal.nth_above-requires-clause-below
nth_above-requires-clause-below c =
    place_below c.self.inside.ranges.value.items.items c.self.inside.piece c.self.inside.marks _ c.self.view_is c.self.invariant
    c.deref.result.now.items.items (neg_ℤ (pos 1000001)) c.args.i (ap (λ r. r.items.items) c.deref.ensures) (omega (arith, ints)) c.requires

pub returns : goal.returns
returns c =
    place_is c.self.inside.ranges.value.items.items c.self.inside.piece c.self.inside.marks _ c.self.view_is c.self.invariant
    c.deref.result.now.items.items (neg_ℤ (pos 1000001)) c.args.i _ (ap (λ r. r.items.items) c.deref.ensures) (omega (arith, ints))
    (c.nth_above.ensures ∙ ap (λ v. Some v) (sym (to_z-of_z w64 c.nth_above.result (record { sfits = c.nth_above.type_inv }))))
