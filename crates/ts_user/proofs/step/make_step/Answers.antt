use Rattle.std.proofs.Common.{◌∙◌, ap, subst, sym, refl}
use Rattle.ts_regex.specs.Shape.{shape_of}
use Rattle.ts_pattern.specs.Entries.{shapes}
use Rattle.ts_validate.specs.Facts.{kept_by, facts_of, facts_agree}
use Rattle.ts_user.specs.Books.{residuals_of, AreListed, values}
use Rattle.ts_user.proofs.Steps.{step_made}
use Rattle.ts_user.proofs.step.make_step.Goals as goal

pub kept-requires-clause-listed : goal.kept-requires-clause-listed
kept-requires-clause-listed c =
    subst (λ z. AreListed (residuals_of c.left.new.book) z) (sym c.as_slice.ensures.value) c.in_ok-kept.ensures.left.listed

pub returns-clause-step : goal.returns-clause-step
returns-clause-step c =
    step_made c.args.rows.now (shape_of c.args.p.now.regex) c.args.p.now.b (residuals_of c.args.book.now) c.left.new.book c.args.here.now _ c.args.letter
    c.arrow-arrow.result c.row.result c.row-kind.result c.as_slice-live.result.now c.in_ok-kept.kept.items c.in_ok-live.live.items
    c.none_kept-free.result c.kept_agree-agrees.result c.in_ok-seen.seen.items c.in_ok-kept.ensures.book c.as_slice-live.ensures.value
    c.row.ensures c.arrow-arrow.ensures c.row-kind.ensures c.in_ok-kept.ensures.left c.none_kept-free.ensures
    (c.in_ok-seen.ensures ∙ ap (λ z. kept_by shapes (values (residuals_of c.left.new.book) z)) c.as_slice.ensures.value)
    (c.kept_agree-agrees.ensures
    ∙ ap (λ z. facts_agree (facts_of c.arrow-arrow.result.phase c.none_kept-free.result z) c.arrow-arrow.result.phase c.row-kind.result.kind)
    c.as_slice-2.ensures.value)
    c.as_slice-3.result.now c.as_slice-3.ensures.value c.in_ok-live.ensures.value c.in_ok-live.ensures.numbers refl refl
