use Rattle.std.proofs.Common.{◌∙◌, ap, length, refl, []}
use Rattle.std.specs.Prelude.{unwrap_or}
use Rattle.ts_token.specs.Halves.{Halves}
use Rattle.ts_run.proofs.Inputs.{model_short, rest_now, rest_short}
use Rattle.ts_run.proofs.CheckSteps.{check_fails}
use Rattle.ts_run.proofs.check.check.Goals as goal

pub model_of-requires : goal.model_of-requires
model_of-requires c =
    model_short c.args.bytes.now c.cut_parts-parts.result.model.now (ap (λ (h : Halves). length h.model) c.cut_parts-parts.ensures) c.requires

pub returns-in_err-model : goal.returns-in_err-model
returns-in_err-model c =
    check_fails c.args.bytes.now c.cut_parts-parts.result.model.now c.in_err-model.field-0.0 c.from_residual.result
    (ap (λ (h : Halves). h.model) c.cut_parts-parts.ensures)
    c.in_err-model.ensures.gives c.from_residual.ensures.1

pub check_series-requires-clause-few : goal.check_series-requires-clause-few
check_series-requires-clause-few c =
    rest_short c.args.bytes.now c.unwrap_or.result.now
    (ap (λ r. length r.now) c.unwrap_or.ensures ∙ ap length (rest_now c.cut_parts-parts.result.rest _ refl)
    ∙ ap (λ (h : Halves). length (unwrap_or h.rest [])) c.cut_parts-parts.ensures)
    c.requires
