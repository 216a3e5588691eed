use mir.Val.{SFits}
use Rattle.std.proofs.Common.{w64, length, slice_get, drop, sym, ap, subst, rules, arith, to_z, of_z, ◌≡◌, ◌<◌, ◌≤◌, ◌≤ℤ◌, ◌∙◌, Some}
use Rattle.std.specs.Prelude.{Contains}
use Rattle.std.proofs.lemmas.Int.{ints, to_z-of_z}
use Rattle.std.proofs.lemmas.List.{drop_all}
use Rattle.std.specs.List.{AllByRecursion}
use Rattle.ts_domain.proofs.MarkedSets.{at_contains}
use Rattle.ts_domain.specs.Values.{IsRising, WithinLimits}
use Rattle.ts_filter.specs.Boxes.{values_at}
use Rattle.ts_filter.specs.KeptCells.{AreFree}
use Rattle.ts_filter.proofs.DropLaws.{first_is, left_is_known, none_left}
use Rattle.ts_filter.proofs.SparedLaws.{left_above, left_free, nothing_before}
use Rattle.ts_filter.proofs.drops.drop_in_cell.Goals as goal

pub loop-i-init : goal.loop-i-init
loop-i-init g c =
    let t = c.args.hulls.now in let own = c.args.own in let all = values_at t.cell t.cells in
    let long = ap length c.values-values.ensures.values in let size = c.size-size.ensures.size in
    let many : 2 ≤ length all = search rules in
    let to = c.count_up_to-i.ensures.to in
    let within : c.count_up_to-i.result ≤ length all = omega (arith, long, to) in (
      within,
      left_above own.all.now own.term t.machine t.cells t.cell c.args.limit c.requires.spared c.requires.usable many
          (subst IsRising c.values-values.ensures.values c.size-size.ensures.domain.rising)
          (subst (AllByRecursion WithinLimits) c.values-values.ensures.values c.size-size.ensures.domain.within) c.count_up_to-i.result within
          (λ i v below at. subst (λ z. v ≤ℤ z) (to_z-of_z w64 c.args.limit c.ranges.limit)
          (c.count_up_to-i.ensures.below i v below (subst (λ l. slice_get l i ≡ Some v) (sym c.values-values.ensures.values) at))),
      c.new-placed.ensures ∙ c.values-values.ensures.values,
    )

pub count_up_to-i-requires-clause-known : goal.count_up_to-i-requires-clause-known
count_up_to-i-requires-clause-known g c = nothing_before c.values-values.result.now (to_z w64 (of_z w64 c.args.limit))

pub count_told-to-requires-clause-value : goal.count_told-to-requires-clause-value
count_told-to-requires-clause-value g c =
    let fits : SFits w64 c.at-value.result = search rules in
    ap (λ l. slice_get l c.loop-i.i) (c.values-values.ensures.values ∙ sym c.loop-i.invariant.2) ∙ c.at-value.ensures.value
    ∙ ap (λ z. Some z) (sym (to_z-of_z w64 c.at-value.result fits))

pub count_told-to-requires-clause-up : goal.count_told-to-requires-clause-up
count_told-to-requires-clause-up g c =
    let fits : SFits w64 c.at-value.result = search rules in
    let v_is = to_z-of_z w64 c.at-value.result fits in
    let to_is = to_z-of_z w64 c.told_of-told.result.to (search rules) in
    let told = c.told_of-told.ensures.to in omega (arith, ints, told, v_is, to_is)

pub at-value-requires : goal.at-value-requires
at-value-requires g c =
    let t = c.args.hulls.now in let all = values_at t.cell t.cells in
    let long = ap length c.values-values.ensures.values in let size = c.size-size.ensures.size in
    let below : c.loop-i.i < length all = omega (arith, long, size, c.loop-i-test.true) in
    subst (λ l. c.loop-i.i < length l) (sym c.loop-i.invariant.2) below

pub first_between-found-requires-clause-placed : goal.first_between-found-requires-clause-placed
first_between-found-requires-clause-placed g c = c.at-value.ensures.same ∙ c.loop-i.invariant.2

pub first_between-found-requires-clause-first : goal.first_between-found-requires-clause-first
first_between-found-requires-clause-first g c =
    let fits : SFits w64 c.at-value.result = search rules in
    sym (ap (λ l. slice_get l c.loop-i.i) c.loop-i.invariant.2) ∙ c.at-value.ensures.value
    ∙ ap (λ z. Some z) (sym (to_z-of_z w64 c.at-value.result fits))

pub first_between-found-requires-clause-many : goal.first_between-found-requires-clause-many
first_between-found-requires-clause-many g c =
    let t = c.args.hulls.now in let all = values_at t.cell t.cells in
    let long = ap length c.values-values.ensures.values in let size = c.size-size.ensures.size in
    let many : 2 ≤ length all = omega (arith, long, size, c.if-size-lt2.false) in many

pub first_between-found-requires-clause-order : goal.first_between-found-requires-clause-order
first_between-found-requires-clause-order g c = let more = c.count_told-to.ensures.more in omega (arith, more)

pub first_between-found-requires-clause-free : goal.first_between-found-requires-clause-free
first_between-found-requires-clause-free g c =
    let fits : SFits w64 c.at-value.result = search rules in
    let v_is = to_z-of_z w64 c.at-value.result fits in
    let to_is = to_z-of_z w64 c.told_of-told.result.to (search rules) in
    let t = c.args.hulls.now in let own = c.args.own in let all = values_at t.cell t.cells in
    let long = ap length c.values-values.ensures.values in let to = c.count_told-to.ensures.to in
    left_free own.all.now own.term t.machine t.cells t.cell c.loop-i.i c.count_told-to.result c.at-value.result c.told_of-told.result
    (first_between-found-requires-clause-order g c) (omega (arith, long, to))
    (subst IsRising c.values-values.ensures.values c.size-size.ensures.domain.rising)
    (sym (ap (λ l. slice_get l c.loop-i.i) c.loop-i.invariant.2) ∙ c.at-value.ensures.value)
    (λ j w below at. subst (λ z. w ≤ℤ z) to_is
    (c.count_told-to.ensures.below j w below (subst (λ l. slice_get l j ≡ Some w) (sym c.values-values.ensures.values) at)))
    (subst (λ z. AreFree own.all.now own.term t.machine t.cells t.cell z c.told_of-told.result) v_is c.told_of-told.ensures.answered)
    c.loop-i.invariant.1

pub returns-then-is_some : goal.returns-then-is_some
returns-then-is_some g c =
    let t = c.args.hulls.now in let own = c.args.own in
    first_is own.all.now own.term t.machine t.cells t.cell (drop c.count_told-to.result (values_at t.cell t.cells)) c.first_between-found.result.0
    c.first_between-found.ensures.found (sym c.is_some.ensures ∙ c.if-is_some.true)

pub after_run-i-requires-clause-order : goal.after_run-i-requires-clause-order
after_run-i-requires-clause-order g c = let more = c.count_told-to.ensures.more in omega (arith, more)

pub after_run-i-requires-clause-inside : goal.after_run-i-requires-clause-inside
after_run-i-requires-clause-inside g c =
    let to = c.count_told-to.ensures.to in let size = c.size-size.ensures.size in omega (arith, to, size)

pub after_run-i-requires-clause-size : goal.after_run-i-requires-clause-size
after_run-i-requires-clause-size g c =
    let long = ap length c.values-values.ensures.values in let size = c.size-size.ensures.size in omega (arith, long, size)

pub after_run-i-requires-clause-left : goal.after_run-i-requires-clause-left
after_run-i-requires-clause-left g c =
    let t = c.args.hulls.now in let own = c.args.own in
    left_is_known own.all.now own.term t.machine t.cells t.cell (drop c.count_told-to.result (values_at t.cell t.cells))
    c.first_between-found.result.0 c.first_between-found.ensures.found (sym c.is_some.ensures ∙ c.if-is_some.false)

pub loop-i-preserved : goal.loop-i-preserved
loop-i-preserved g c =
    let long = ap length c.values-values.ensures.values in let size = c.size-size.ensures.size in let to = c.after_run-i.ensures.to in (
      omega (arith, long, size, to),
      c.after_run-i.ensures.left,
      c.first_between-found.ensures.placed ∙ c.at-value.ensures.same ∙ c.loop-i.invariant.2,
    )

pub loop-i-smaller : goal.loop-i-smaller
loop-i-smaller g c =
    let more = c.count_told-to.ensures.more in
    let long = ap length c.values-values.ensures.values in let size = c.size-size.ensures.size in
    let from = c.after_run-i.ensures.from in let to = c.after_run-i.ensures.to in omega (arith, more, long, size, from, to)

pub returns : goal.returns
returns g c =
    let t = c.args.hulls.now in let all = values_at t.cell t.cells in let long = ap length c.values-values.ensures.values in
    let size = c.size-size.ensures.size in
    none_left c.args.own.all.now c.args.own.term t.machine t.cells t.cell (drop c.loop-i.i all) c.loop-i.invariant.1
    (drop_all c.loop-i.i all (omega (arith, long, c.loop-i-test.false, size)))

pub told_of-told-requires-clause-value : goal.told_of-told-requires-clause-value
told_of-told-requires-clause-value g c =
    let fits : SFits w64 c.at-value.result = search rules in
    let t = c.args.hulls.now in let all = values_at t.cell t.cells in
    subst (Contains all) (sym (to_z-of_z w64 c.at-value.result fits))
    (at_contains all c.loop-i.i c.at-value.result (sym (ap (λ l. slice_get l c.loop-i.i) c.loop-i.invariant.2) ∙ c.at-value.ensures.value))
