use mir.Val.{SFits}
use Rattle.std.proofs.Common.{◌≡◌, ◌<ℤ◌, ◌≤ℤ◌, Some, slice_get, subst, sym, w64, arith, to_z, of_z, rules}
use Rattle.std.proofs.lemmas.Int.{ints, to_z-of_z}
use Rattle.ts_domain.proofs.MarkedSets.{at_contains}
use Rattle.ts_filter.proofs.SparedLaws.{AreUpTo, after_place, all_above, all_up_to, none_above, up_to_place}
use Rattle.ts_filter.proofs.drops.count_up_to.Goals as goal

pub returns-then-contains-clause-below : goal.returns-then-contains-clause-below
returns-then-contains-clause-below c =
    λ i v below at. up_to_place c.args.values.now i c.place_of.result v c.args.limit c.size-size.ensures.domain.rising below at
    (subst (λ z. slice_get c.args.values.now c.place_of.result ≡ Some z) (to_z-of_z w64 c.args.limit c.ranges.limit) c.place_of.ensures)

pub returns-then-contains-clause-above : goal.returns-then-contains-clause-above
returns-then-contains-clause-above c =
    λ i v after at. after_place c.args.values.now i c.place_of.result v c.args.limit c.size-size.ensures.domain.rising after at
    (subst (λ z. slice_get c.args.values.now c.place_of.result ≡ Some z) (to_z-of_z w64 c.args.limit c.ranges.limit) c.place_of.ensures)

pub returns-then-ends-limit-clause-below : goal.returns-then-ends-limit-clause-below
returns-then-ends-limit-clause-below c =
    let fits : SFits w64 c.ends.result.high = search rules in
    let high_is = to_z-of_z w64 c.ends.result.high fits in let limit_is = to_z-of_z w64 c.args.limit c.ranges.limit in
    let less : to_z w64 (of_z w64 c.ends.result.high) ≤ℤ to_z w64 (of_z w64 c.args.limit) =
    let test = c.if-ends-limit.true in grind (arith, ints, test) in
    λ i v below at.
    let most = (c.ends.ensures.all v (at_contains c.args.values.now i v at)).1 in omega (arith, ints, most, less, high_is, limit_is)

pub returns-then-ends-limit-clause-above : goal.returns-then-ends-limit-clause-above
returns-then-ends-limit-clause-above c =
    let size = c.size-size.ensures.size in none_above c.args.values.now c.size-size.result c.args.limit (omega (arith, size))

pub loop-from-init : goal.loop-from-init
loop-from-init c =
    let size = c.size-size.ensures.size in let limit = to_z w64 (of_z w64 c.args.limit) in let known = c.requires.within in record {
      order = omega (arith, size, known);
      within = omega (arith, size);
      below = subst (AreUpTo c.args.values.now c.args.known) (sym (to_z-of_z w64 c.args.limit c.ranges.limit)) c.requires.known;
      above = none_above c.args.values.now c.size-size.result limit (omega (arith, size));
    }

pub nth-value-requires : goal.nth-value-requires
nth-value-requires c = let within = c.loop-from.invariant.within in let test = c.loop-from-test.true in omega (arith, within, test)

pub loop-from-preserved-then-value-limit : goal.loop-from-preserved-then-value-limit
loop-from-preserved-then-value-limit c =
    let h = c.loop-from.invariant in let within = h.within in let test = c.loop-from-test.true in
    let fits : SFits w64 c.nth-value.result = search rules in
    let less : to_z w64 (of_z w64 c.nth-value.result) ≤ℤ to_z w64 (of_z w64 c.args.limit) = let most = c.if-value-limit.true in grind (arith, ints, most) in
    record {
      order = omega (arith, test);
      within = within;
      below = all_up_to c.args.values.now _ c.nth-value.result (to_z w64 (of_z w64 c.args.limit)) c.size-size.ensures.domain.rising c.nth-value.ensures
          (subst (λ z. z ≤ℤ to_z w64 (of_z w64 c.args.limit)) (to_z-of_z w64 c.nth-value.result fits) less);
      above = h.above;
    }

pub loop-from-preserved : goal.loop-from-preserved
loop-from-preserved c =
    let h = c.loop-from.invariant in let within = h.within in let test = c.loop-from-test.true in
    let fits : SFits w64 c.nth-value.result = search rules in
    let more : to_z w64 (of_z w64 c.args.limit) <ℤ to_z w64 (of_z w64 c.nth-value.result) =
    let over = c.if-value-limit.false in grind (arith, ints, over) in record {
      order = omega (arith, test);
      within = omega (arith, within, test);
      below = h.below;
      above = all_above c.args.values.now _ c.nth-value.result (to_z w64 (of_z w64 c.args.limit)) c.size-size.ensures.domain.rising c.nth-value.ensures
          (subst (λ z. to_z w64 (of_z w64 c.args.limit) <ℤ z) (to_z-of_z w64 c.nth-value.result fits) more);
    }

pub returns-clause-to : goal.returns-clause-to
returns-clause-to c = let h = c.loop-from.invariant in let order = h.order in let within = h.within in omega (arith, order, within)

pub returns-clause-below : goal.returns-clause-below
returns-clause-below c =
    subst (AreUpTo c.args.values.now c.loop-from.from) (to_z-of_z w64 c.args.limit c.ranges.limit) c.loop-from.invariant.below

pub returns-clause-above : goal.returns-clause-above
returns-clause-above c = λ i v after at.
    let limit = to_z-of_z w64 c.args.limit c.ranges.limit in
    subst (λ z. z <ℤ v) limit
    (c.loop-from.invariant.above i v (let over = c.loop-from-test.false in omega (arith, over, after)) at)
