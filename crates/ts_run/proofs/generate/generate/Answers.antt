use Rattle.std.proofs.Common.{◌∙◌, subst}
use Rattle.ts_certificate.specs.Certificate.{cert_seen}
use Rattle.ts_model.specs.declared.model.Need.TheVariants.{List as NeedsList}
use Rattle.ts_model.specs.Views.{model_parts}
use Rattle.ts_spans.specs.Machines.{spans_in}
use Rattle.ts_search.specs.Listed.{IsListAnswer}
use Rattle.ts_run.specs.Certified.{IsListing}
use Rattle.ts_run.specs.Reply.{reply_of}
use Rattle.ts_run.proofs.Steps.{model_fails, model_replies}
use Rattle.ts_run.proofs.generate.generate.Goals as goal

pub returns-in_err-model : goal.returns-in_err-model
returns-in_err-model c =
    model_fails NeedsList c.args.bytes.now (IsListing c.args.count c.args.budget) c.in_err-model.field-0.0 c.from_residual.result c.in_err-model.ensures.gives
    c.from_residual.ensures.1

pub returns : goal.returns
returns c =
    let m = model_parts c.in_ok-model.model in
    let r = reply_of c.in_ok-certified.field-0 in
    let is : IsListing c.args.count c.args.budget m r = record {
      certificate = cert_seen c.in_ok-certificate.certificate;
      is = subst (λ n. IsListAnswer m (spans_in m) n c.args.budget (cert_seen c.in_ok-certificate.certificate)) c.series.ensures.value
          (subst (λ n. IsListAnswer m (spans_in m) c.series.result n (cert_seen c.in_ok-certificate.certificate)) (c.from-lines.ensures ∙ c.lines.ensures.value)
          c.in_ok-certificate.ensures);
      written = c.in_ok-certified.ensures.written;
    } in
    (model_replies NeedsList c.args.bytes.now (IsListing c.args.count c.args.budget) m r c.in_ok-model.ensures.gives is, c.in_ok-certified.ensures.status)
