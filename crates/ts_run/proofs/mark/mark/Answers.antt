use Rattle.std.proofs.Common.{◌∙◌, ap, length, refl, []}
use Rattle.std.specs.Prelude.{unwrap_or}
use Rattle.ts_token.specs.Halves.{Halves}
use Rattle.ts_user.specs.Views.{described_of}
use Rattle.ts_run.proofs.Inputs.{model_short, rest_now, rest_short}
use Rattle.ts_run.proofs.MarkSteps.{pattern_fails, pattern_replies}
use Rattle.ts_run.proofs.mark.mark.Goals as goal

pub pattern_of-requires : goal.pattern_of-requires
pattern_of-requires c =
    model_short c.args.bytes.now c.cut_parts-parts.result.model.now (ap (λ (h : Halves). length h.model) c.cut_parts-parts.ensures) c.requires

pub returns-in_err-user : goal.returns-in_err-user
returns-in_err-user c =
    pattern_fails c.args.bytes.now c.cut_parts-parts.result.model.now c.in_err-user.field-0.0 c.from_residual.result
    (ap (λ (h : Halves). h.model) c.cut_parts-parts.ensures)
    c.in_err-user.ensures.gives c.from_residual.ensures.1

pub mark_series-requires-clause-few : goal.mark_series-requires-clause-few
mark_series-requires-clause-few c =
    rest_short c.args.bytes.now c.unwrap_or.result.now
    (ap (λ r. length r.now) c.unwrap_or.ensures ∙ ap length (rest_now c.cut_parts-parts.result.rest _ refl)
    ∙ ap (λ (h : Halves). length (unwrap_or h.rest [])) c.cut_parts-parts.ensures)
    c.requires

pub returns : goal.returns
returns c =
    pattern_replies c.args.bytes.now c.cut_parts-parts.result.model.now c.unwrap_or.result.now (described_of c.in_ok-user.user) c.mark_series.result
    (ap (λ (h : Halves). h.model) c.cut_parts-parts.ensures)
    (ap (λ r. r.now) c.unwrap_or.ensures ∙ rest_now c.cut_parts-parts.result.rest _ refl ∙ ap (λ (h : Halves). unwrap_or h.rest []) c.cut_parts-parts.ensures)
    c.in_ok-user.ensures.gives c.mark_series.ensures
