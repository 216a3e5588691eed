use Rattle.std.proofs.Common.{◌≤◌, ◌<◌, ◌∙◌, ap, sym, subst, arith, length, List, ℤ}
use Rattle.ts_base.specs.declared.range.Range.{Range}
use Rattle.ts_base.specs.Signature.{signature_of}
use Rattle.ts_regex.specs.Shape.{shape_of}
use Rattle.ts_pattern.specs.declared.pattern.Pattern.{Pattern}
use Rattle.ts_pattern.specs.AllOccurrences.{occurrence_ranges}
use Rattle.ts_user.specs.Views.{described_of}
use Rattle.ts_validate.specs.Validations.{pattern_of}
use Rattle.ts_mark.specs.MarkText.{marks_text}
use Rattle.ts_mark.specs.Rising.{AreRising}
use Rattle.ts_run.proofs.MarkSteps.{marked, plan_fails, series_fails}
use Rattle.ts_run.proofs.mark.mark_series.Goals as goal

pub returns-in_err-validated : goal.returns-in_err-validated
returns-in_err-validated c =
    plan_fails c.args.text.now (described_of c.args.user) c.in_err-validated.field-0.0 c.from_residual.result c.in_err-validated.ensures
    c.from_residual.ensures.1

pub returns-in_err-series : goal.returns-in_err-series
returns-in_err-series c =
    series_fails c.args.text.now (described_of c.args.user) c.in_err-series.field-0.0 c.from_residual-in_err-series.result c.in_ok-validated.ensures.0
    c.in_err-series.ensures.gives c.from_residual-in_err-series.ensures.1

pub marks-requires-clause-small : goal.marks-requires-clause-small
marks-requires-clause-small c =
    let trim = ap (λ (p : Pattern). p.a) c.pattern.ensures ∙ c.in_ok-validated.ensures.1.after in
    let small = c.requires.after in
    omega (arith, trim, small)

pub marks-requires-clause-some : goal.marks-requires-clause-some
marks-requires-clause-some c = subst (λ (xs : List ℤ). 1 ≤ length xs) (sym c.deref.ensures.value) c.in_ok-series.ensures.count.0

pub marks-requires-clause-few : goal.marks-requires-clause-few
marks-requires-clause-few c =
    let few = c.in_ok-series.ensures.count.1 in
    subst (λ (xs : List ℤ). length xs < 4000000000) (sym c.deref.ensures.value) (omega (arith, few))

pub marks_text-requires-clause-few : goal.marks_text-requires-clause-few
marks_text-requires-clause-few c =
    let few = c.in_ok-series.ensures.count.1 in
    let same = ap length c.deref.ensures.value in
    let told = c.in_ok-ranges.ensures.few in
    subst (λ (ranges : List Range). length ranges < 4000000000) (sym c.deref-2.ensures.value) (omega (arith, few, same, told))

pub marks_text-requires-clause-rising : goal.marks_text-requires-clause-rising
marks_text-requires-clause-rising c = subst AreRising (sym c.deref-2.ensures.value) c.in_ok-ranges.ensures.rising

pub returns : goal.returns
returns c =
    let p = pattern_of c.in_ok-validated.validated in
    let a = c.pattern.result.now.a in
    let told = c.in_ok-ranges.ensures.ranges ∙ ap (λ (xs : List ℤ). occurrence_ranges (shape_of p.regex) p.b a (signature_of xs)) c.deref.ensures.value in (
      marked c.args.text.now (described_of c.args.user) p a c.len.result c.in_ok-series.series.items c.in_ok-ranges.ranges.items c.in_ok-text.text.items
          c.in_ok-validated.ensures.0 c.in_ok-validated.ensures.1 (ap (λ (q : Pattern). q.a) c.pattern.ensures) (c.len.ensures ∙ c.in_ok-series.series.ok.0)
          c.in_ok-series.ensures.gives told
          (c.in_ok-text.ensures ∙ ap (λ (ranges : List Range). marks_text c.len.result ranges) c.deref-2.ensures.value),
      tt,
    )
