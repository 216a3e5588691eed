use Rattle.std.proofs.Common.{◌∙◌, subst}
use Rattle.ts_certificate.specs.Certificate.{cert_seen}
use Rattle.ts_model.specs.declared.model.Need.TheVariants.{Best as NeedsBest}
use Rattle.ts_model.specs.Views.{model_parts}
use Rattle.ts_spans.specs.Machines.{spans_in}
use Rattle.ts_search.specs.Solved.{IsSolution}
use Rattle.ts_run.specs.Certified.{IsBest}
use Rattle.ts_run.specs.Reply.{reply_of}
use Rattle.ts_run.proofs.Steps.{model_fails, model_replies}
use Rattle.ts_run.proofs.best.best.Goals as goal

pub returns-in_err-model : goal.returns-in_err-model
returns-in_err-model c =
    model_fails NeedsBest c.args.bytes.now (IsBest c.args.goal c.args.budget) c.in_err-model.field-0.0 c.from_residual.result c.in_err-model.ensures.gives
    c.from_residual.ensures.1

pub returns : goal.returns
returns c =
    let m = model_parts c.in_ok-model.model in
    let r = reply_of c.in_ok-certified.field-0 in
    let is : IsBest c.args.goal c.args.budget m r = record {
      certificate = cert_seen c.in_ok-certificate.certificate;
      is = subst (λ n. IsSolution m (spans_in m) c.args.goal n (cert_seen c.in_ok-certificate.certificate)) (c.from.ensures ∙ c.lines.ensures.value)
          c.in_ok-certificate.ensures;
      written = c.in_ok-certified.ensures.written;
    } in
    (model_replies NeedsBest c.args.bytes.now (IsBest c.args.goal c.args.budget) m r c.in_ok-model.ensures.gives is, c.in_ok-certified.ensures.status)
