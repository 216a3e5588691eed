use mir.Val.{SFits}
use Rattle.std.proofs.Common.{w64, length, slice_get, drop, sym, ap, ◌∙◌, subst, rules, arith, to_z, of_z, ◌≡◌, ◌≤◌, ◌<◌, ◌+◌, Some}
use Rattle.std.proofs.lemmas.Int.{to_z-of_z}
use Rattle.ts_filter.specs.Boxes.{values_at}
use Rattle.ts_filter.specs.Drops.{IsFirstOf}
use Rattle.ts_filter.specs.TermDrops.{AreLeft, IsDropAt}
use Rattle.ts_filter.proofs.CellLaws.{left_is}
use Rattle.ts_filter.proofs.DropLaws.{drop_found_as, fewer_left_as, left_met}
use Rattle.ts_filter.proofs.drops.first_between.Goals as goal

pub returns-then-free-clause-found : goal.returns-then-free-clause-found
returns-then-free-clause-found c = c.requires.free c.if-free.true

pub loop-i-init : goal.loop-i-init
loop-i-init c =
    let t = c.args.hulls.now in let own = c.args.own in let all = values_at t.cell t.cells in
    let to = c.settled_to-i.ensures.to in let inside = c.requires.inside in
    let within : c.settled_to-i.result ≤ length all = omega (arith, to, inside) in (
      to,
      left_met own.all.now own.term t.machine t.cells t.cell t.ends c.args.asked c.requires.asked.excludes c.args.from c.settled_to-i.result
          c.settled_to-i.ensures.from within c.settled_to-i.ensures.met c.requires.left,
      c.requires.placed,
    )

pub value_at-value-requires-clause-inside : goal.value_at-value-requires-clause-inside
value_at-value-requires-clause-inside c =
    let t = c.args.hulls.now in let all = values_at t.cell t.cells in let inside = c.requires.inside in
    let below : c.loop-i.i < length all = omega (arith, inside, c.loop-i-test.true) in
    subst (λ l. c.loop-i.i < length l) (sym c.loop-i.invariant.2) below

pub value_at-value-requires-clause-known : goal.value_at-value-requires-clause-known
value_at-value-requires-clause-known c =
    ap (λ l. slice_get l c.args.from) c.loop-i.invariant.2 ∙ c.requires.first ∙ ap (λ z. Some z) (sym (to_z-of_z w64 c.args.first c.ranges.first))

pub returns-in-Some-clause-placed : goal.returns-in-Some-clause-placed
returns-in-Some-clause-placed c = c.value_at-value.ensures.same ∙ c.loop-i.invariant.2 ∙ sym c.requires.placed

pub returns-in-Some-clause-found : goal.returns-in-Some-clause-found
returns-in-Some-clause-found c =
    let fits : SFits w64 c.value_at-value.result = search rules in
    let t = c.args.hulls.now in let all = values_at t.cell t.cells in let inside = c.requires.inside in
    let left = left_is all c.loop-i.i c.value_at-value.result (omega (arith, inside, c.loop-i-test.true))
    (sym (ap (λ l. slice_get l c.loop-i.i) c.loop-i.invariant.2) ∙ c.value_at-value.ensures.value) in
    subst (λ k. IsFirstOf (IsDropAt c.args.own.all.now c.args.own.term t.machine t.cells t.cell)
    (Some (record { cell = k; value = to_z w64 (of_z w64 c.value_at-value.result); require = c.in-Some.require })))
    (sym c.cell.ensures)
    (drop_found_as c.args.own.all.now c.args.own.term t.machine t.cells t.cell (drop c.loop-i.i all) (drop (c.loop-i.i + 1) all) c.value_at-value.result _
    c.in-Some.require (to_z-of_z w64 c.value_at-value.result fits) c.loop-i.invariant.1 left c.requires.usable c.requires.many
    c.in-Some.ensures)

pub loop-i-preserved : goal.loop-i-preserved
loop-i-preserved c =
    let fits : SFits w64 c.value_at-value.result = search rules in
    let t = c.args.hulls.now in let own = c.args.own in let all = values_at t.cell t.cells in let inside = c.requires.inside in
    let left = left_is all c.loop-i.i c.value_at-value.result (omega (arith, inside, c.loop-i-test.true))
    (sym (ap (λ l. slice_get l c.loop-i.i) c.loop-i.invariant.2) ∙ c.value_at-value.ensures.value) in
    let rest = fewer_left_as own.all.now own.term t.machine t.cells t.cell (drop c.loop-i.i all) (drop (c.loop-i.i + 1) all) c.value_at-value.result _
    (to_z-of_z w64 c.value_at-value.result fits) c.loop-i.invariant.1 left c.in_default.ensures in
    let to = c.settled_further-i.ensures.to in
    let within : c.settled_further-i.result ≤ length all = omega (arith, to, inside) in (
      to,
      left_met own.all.now own.term t.machine t.cells t.cell t.ends c.args.asked c.requires.asked.excludes (c.loop-i.i + 1)
          c.settled_further-i.result c.settled_further-i.ensures.from within c.settled_further-i.ensures.met rest,
      c.value_at-value.ensures.same ∙ c.loop-i.invariant.2,
    )

pub returns-clause-placed : goal.returns-clause-placed
returns-clause-placed c = c.loop-i.invariant.2 ∙ sym c.requires.placed

pub returns-clause-found : goal.returns-clause-found
returns-clause-found c =
    let t = c.args.hulls.now in let own = c.args.own in let all = values_at t.cell t.cells in
    let up = c.loop-i.invariant.0 in
    let same : c.loop-i.i ≡ c.args.to = omega (arith, up, c.loop-i-test.false) in
    subst (λ i. AreLeft own.all.now own.term t.machine t.cells t.cell (drop i all)) same c.loop-i.invariant.1
