use Rattle.std.proofs.Common.{refl, neg_ℤ}
use Rattle.ts_sweep.specs.Small.{IsCut}
use Rattle.ts_sweep.proofs.LeadLaws.{lead_is}
use Rattle.ts_sweep.proofs.RunSteps.{as_passed}
use Rattle.ts_sweep.proofs.runs.lead_of.Goals as goal

pub returns-clause-leads : goal.returns-clause-leads
returns-clause-leads g c =
    let x = c.whole_lead-lead.result in
    let n = c.args.values.count in
    let m = c.args.next_values.count in
    let small = c.whole_lead-lead.ensures.small in
    lead_is _ c.args.twin c.args.values.first c.args.next_values.first _ x n m c.cut_lead.result.ahead c.cut_lead.result.behind
    refl c.whole_lead-lead.ensures.value (as_passed (λ z. IsCut z n c.cut_lead.result.ahead) x small c.cut_lead.ensures.ahead)
    (as_passed (λ z. IsCut (neg_ℤ z) m c.cut_lead.result.behind) x small c.cut_lead.ensures.behind)
