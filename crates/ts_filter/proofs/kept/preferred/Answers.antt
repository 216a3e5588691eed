use mir.Val.{SFits}
use Rattle.std.proofs.Common.{w64, of_z, to_z, rules, arith, sym, ap, ◌∙◌, ◌+◌, drop, subst, ℤ, Some}
use Rattle.std.proofs.lemmas.Int.{to_z-of_z}
use Rattle.ts_filter.specs.Boxes.{values_at}
use Rattle.ts_filter.specs.KeptValue.{end_in}
use Rattle.ts_filter.proofs.CellLaws.{walk_step}
use Rattle.ts_filter.proofs.KeptLaws.{IsSoFar, kept_begins, kept_changes, kept_stays, kept_of_all, some_first, told_so}
use Rattle.ts_filter.proofs.kept.preferred.Goals as goal

pub values_from-v-items-requires : goal.values_from-v-items-requires
values_from-v-items-requires c =
    let first = some_first c.values-values.result.now c.least-kept.result c.least-kept.ensures.first in omega (arith, first)

pub loop-v-init : goal.loop-v-init
loop-v-init c =
    let t = c.args.hulls.now in let end = end_in t.machine c.args.goal t.cell t.cells in let first = c.least-kept.result in
    let fits : SFits w64 first = search rules in
    let same = c.values-values.ensures.values in let all = c.values-values.result.now in
    let rest = c.into_iter-v-iterator.ensures.into_iter_gives ∙ c.values_from-v-items.ensures in (
      subst (λ z. IsSoFar c.args.goal end z c.into_iter-v-iterator.result (to_z w64 (of_z w64 first))) same
          (subst (λ z. IsSoFar c.args.goal end all z (to_z w64 (of_z w64 first))) (sym rest)
          (subst (λ (u : ℤ). IsSoFar c.args.goal end all (drop 1 all) u) (sym (to_z-of_z w64 first fits))
          (kept_begins c.args.goal end all first c.least-kept.ensures.domain.rising c.least-kept.ensures.first))),
      rest ∙ ap (drop 1) same,
      c.best_end_at-best.ensures,
    )

pub loop-v-preserved-then-is_better : goal.loop-v-preserved-then-is_better
loop-v-preserved-then-is_better c =
    let v = c.in-Some.v in let fits : SFits w64 v = search rules in
    let t = c.args.hulls.now in let end = end_in t.machine c.args.goal t.cell t.cells in let all = values_at t.cell t.cells in
    let same = to_z-of_z w64 v fits in let ends = c.best_end_at-end.ensures in
    let left = c.in-Some.ensures.steps in let rest = c.next.new.self in
    let step = walk_step all (c.loop-v.place + 1) v rest (sym c.loop-v.invariant.1 ∙ left) in (
      subst (λ (u : ℤ). IsSoFar c.args.goal end all rest u) (sym same)
          (kept_changes c.args.goal end all c.loop-v.v-iterator rest _ v c.loop-v.invariant.0 left
          (told_so c.args.goal _ _ _ _ c.is_better.result _ c.is_better.ensures (ends ∙ ap end same) c.loop-v.invariant.2 c.if-is_better.true)),
      step.2,
      ends,
    )

pub loop-v-preserved : goal.loop-v-preserved
loop-v-preserved c =
    let v = c.in-Some.v in let fits : SFits w64 v = search rules in
    let t = c.args.hulls.now in let end = end_in t.machine c.args.goal t.cell t.cells in let all = values_at t.cell t.cells in
    let same = to_z-of_z w64 v fits in let ends = c.best_end_at-end.ensures in
    let left = c.in-Some.ensures.steps in let rest = c.next.new.self in
    let step = walk_step all (c.loop-v.place + 1) v rest (sym c.loop-v.invariant.1 ∙ left) in (
      kept_stays c.args.goal end all c.loop-v.v-iterator rest _ v c.loop-v.invariant.0 left
          (told_so c.args.goal _ _ _ _ c.is_better.result _ c.is_better.ensures (ends ∙ ap end same) c.loop-v.invariant.2 c.if-is_better.false),
      step.2,
      c.loop-v.invariant.2,
    )

pub best_end_at-end-requires-clause-value : goal.best_end_at-end-requires-clause-value
best_end_at-end-requires-clause-value c =
    let t = c.args.hulls.now in let v = c.in-Some.v in let fits : SFits w64 v = search rules in
    (walk_step (values_at t.cell t.cells) (c.loop-v.place + 1) v c.next.new.self (sym c.loop-v.invariant.1 ∙ c.in-Some.ensures.steps)).1
    ∙ ap (λ (u : ℤ). Some u) (sym (to_z-of_z w64 v fits))

pub returns-clause-best : goal.returns-clause-best
returns-clause-best c =
    let t = c.args.hulls.now in let end = end_in t.machine c.args.goal t.cell t.cells in let all = values_at t.cell t.cells in
    kept_of_all c.args.goal end all c.loop-v.v-iterator _ c.loop-v.invariant.0 c.in-None.ensures.steps.0
