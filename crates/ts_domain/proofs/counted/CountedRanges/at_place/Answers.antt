use Rattle.std.proofs.Common.{pos, arith, sym, ap, ◌∙◌}
use Rattle.std.proofs.lemmas.Int.{ints}
use Rattle.ts_domain.specs.Counts.{counts_from}
use Rattle.ts_domain.proofs.Counts.{value_given}
use Rattle.ts_domain.proofs.counted.CountedRanges.at_place.Goals as goal

pub range_of_place-at-requires-clause-counted : goal.range_of_place-at-requires-clause-counted
range_of_place-at-requires-clause-counted c = c.as_slice-before.ensures ∙ c.args.self.now.counted ∙ ap (counts_from 0) (sym c.as_slice-items.ensures)

pub overflow_sub-above : goal.overflow_sub-above
overflow_sub-above c = c.range_of_place-at.ensures.place.from

pub overflow_cast-result : goal.overflow_cast-result
overflow_cast-result c = let small = c.range_of_place-at.ensures.place.small in omega (arith, small)

pub overflow_add-result : goal.overflow_add-result
overflow_add-result c =
    let small = c.range_of_place-at.ensures.place.small in
    let within = c.range_of_place-at.ensures.place.within (record { low = pos 0; high = pos 0 }) in
    omega (arith, ints, small, within.0, within.1)

pub returns : goal.returns
returns c =
    let here = c.range_of_place-at.ensures.place in
    let within = here.within (record { low = pos 0; high = pos 0 }) in
    value_given c.args.self.now.items.items c.as_slice-items.result.now c.as_slice-before.result.now c.args.i _ (record { low = pos 0; high = pos 0 }) _
    c.as_slice-items.ensures here (let small = here.small in omega (arith, ints, small, within.0, within.1))
