use Rattle.std.proofs.Common.{◌≤ℤ◌, Some, ℤ, subst, sym, ◌∙◌, ap, w64, arith, to_z, of_z}
use Rattle.std.proofs.lemmas.Int.{ints, to_z-of_z}
use Rattle.std.proofs.lemmas.Option.{slice_get_within}
use Rattle.ts_filter.proofs.SparedLaws.{all_up_to, past_value, up_to_place}
use Rattle.ts_filter.proofs.drops.count_told.Goals as goal

pub overflow_add-result : goal.overflow_add-result
overflow_add-result c =
    let below = slice_get_within c.args.values.now c.args.i _ c.requires.value in let size = c.requires.size in omega (arith, below, size)

pub overflow_add-i : goal.overflow_add-i
overflow_add-i c =
    let below = slice_get_within c.args.values.now c.args.i _ c.requires.value in let size = c.requires.size in omega (arith, below, size)

pub returns-then-value-to-clause-to : goal.returns-then-value-to-clause-to
returns-then-value-to-clause-to c =
    let below = slice_get_within c.args.values.now c.args.i _ c.requires.value in omega (arith, below)

pub returns-then-value-to-clause-below : goal.returns-then-value-to-clause-below
returns-then-value-to-clause-below c =
    let same = sym (to_z-of_z w64 c.args.value c.ranges.value) ∙ ap (to_z w64) c.if-value-to.true ∙ to_z-of_z w64 c.args.to c.ranges.to in
    λ j v below at. up_to_place c.args.values.now j c.args.i v c.args.to c.requires.domain.rising below at
    (c.requires.value ∙ ap (λ (z : ℤ). Some z) same)

pub count_up_to-requires-clause-within : goal.count_up_to-requires-clause-within
count_up_to-requires-clause-within c =
    let below = slice_get_within c.args.values.now c.args.i _ c.requires.value in omega (arith, below)

pub count_up_to-requires-clause-known : goal.count_up_to-requires-clause-known
count_up_to-requires-clause-known c =
    let to_is = to_z-of_z w64 c.args.to c.ranges.to in let up = c.requires.up in
    all_up_to c.args.values.now c.args.i c.args.value (to_z w64 (of_z w64 c.args.to)) c.requires.domain.rising c.requires.value
    (omega (arith, ints, up, to_is))

pub returns-clause-more : goal.returns-clause-more
returns-clause-more c =
    let to_is = to_z-of_z w64 c.args.to c.ranges.to in let up = c.requires.up in
    past_value c.args.values.now c.args.i c.count_up_to.result c.args.value (to_z w64 (of_z w64 c.args.to)) c.count_up_to.ensures.above
    c.requires.value (omega (arith, ints, up, to_is))

pub returns-clause-below : goal.returns-clause-below
returns-clause-below c =
    λ j v below at. subst (λ z. v ≤ℤ z) (to_z-of_z w64 c.args.to c.ranges.to) (c.count_up_to.ensures.below j v below at)
