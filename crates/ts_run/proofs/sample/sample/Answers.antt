use mir.Val.{SFits}
use Rattle.std.proofs.Common.{◌∙◌, ◌++◌, ap, of_z, refl, rules, subst, sym, to_z, w64, List, ℕ}
use Rattle.std.proofs.lemmas.Int.{to_z-of_z}
use Rattle.ts_automaton.specs.AutomatonRun.{AreCellValues}
use Rattle.ts_certificate.specs.Certificate.{cert_seen, checked_count}
use Rattle.ts_model.specs.Views.{model_parts}
use Rattle.ts_checker.specs.Checking.{Checking}
use Rattle.ts_run.specs.Reply.{Reply, reply_of}
use Rattle.ts_run.specs.Sample.{sample_text, sum_of}
use Rattle.ts_run.proofs.SampleLaws.{first_cells, found_given, ran_out_given, text_given}
use Rattle.ts_run.proofs.sample.sample.Goals as goal

pub returns-in_default : goal.returns-in_default
returns-in_default c = record {
  reply = ran_out_given c.args.cells c.cells-n.result c.from.result (model_parts c.in_ok-model.model) (cert_seen c.in_ok-certificate.certificate)
      c.cells-n.ensures.value c.cells-n.ensures.range c.in_ok-model.ensures.stated c.from.ensures c.in_ok-certificate.ensures
      c.ran_out.result c.in_default.not-Best c.ran_out.ensures.reply;
  status = c.ran_out.ensures.status;
}

pub sum_of-sum-requires-clause-cells : goal.sum_of-sum-requires-clause-cells
sum_of-sum-requires-clause-cells c =
    subst AreCellValues (sym c.deref.ensures.value)
    (first_cells c.args.cells c.cells-n.result c.from.result (model_parts c.in_ok-model.model) (cert_seen c.in_ok-certificate.certificate)
    c.cells-n.ensures.value c.cells-n.ensures.range c.in_ok-model.ensures.stated c.from.ensures c.in_ok-certificate.ensures
    (λ x. x.items) c.in_ok-certificate.certificate.series.items c.index.result.now c.in-Best.value refl c.index.ensures c.in-Best.is)

pub verdict_on-requires-clause-few : goal.verdict_on-requires-clause-few
verdict_on-requires-clause-few c =
    text_given c.args.cells c.cells-n.result c.from.result (model_parts c.in_ok-model.model) (cert_seen c.in_ok-certificate.certificate)
    c.cells-n.ensures.value c.cells-n.ensures.range c.in_ok-model.ensures.stated c.from.ensures c.in_ok-certificate.ensures c.deref-3.result.now
    (c.deref-3.ensures.value ∙ c.in_ok-text.ensures)

pub returns-clause-reply : goal.returns-clause-reply
returns-clause-reply c =
    let fits : SFits w64 c.sum_of-sum.result = search rules in
    let sum = to_z w64 (of_z w64 c.sum_of-sum.result) in
    found_given c.args.cells c.cells-n.result c.from.result (model_parts c.in_ok-model.model) (cert_seen c.in_ok-certificate.certificate)
    c.cells-n.ensures.value c.cells-n.ensures.range c.in_ok-model.ensures.stated c.from.ensures c.in_ok-certificate.ensures
    (λ x. x.items) c.in_ok-certificate.certificate.series.items c.index.result.now c.in-Best.value refl c.index.ensures c.in-Best.is
    sum c.checked_lines-lines.result c.in_ok-verdict.verdict (reply_of c.in_ok-reply.reply) _ c.deref-3.result.now c.in_ok-new.field-0.model
    (to_z-of_z w64 c.sum_of-sum.result fits ∙ c.sum_of-sum.ensures ∙ ap sum_of c.deref.ensures.value)
    (c.checked_lines-lines.ensures.checked ∙ ap checked_count c.deref-2.ensures.value)
    (ap (λ (z : Checking). z.model) c.in_ok-new.ensures.unfed) (c.deref-3.ensures.value ∙ c.in_ok-text.ensures) c.in_ok-verdict.ensures.is
    c.in_ok-reply.ensures.reply
    (ap (λ (t : List ℕ). let r : Reply = record { text = t; status = c.in_ok-reply.reply.status } in r)
    (c.in_ok-reply-2.ensures
    ∙ ap (λ (t : List ℕ). sample_text c.cells-n.result c.in-Best.value sum c.checked_lines-lines.result ++ t) c.deref-4.ensures.value))
