use Rattle.std.proofs.Common.{refl, ap, ◌∙◌}
use Rattle.ts_domain.proofs.MarkedSets.{marked_domain}
use Rattle.ts_domain.proofs.Wholes.{whole_is}
use Rattle.ts_domain.proofs.domain.whole.Goals as goal

pub invariant_of-result : goal.invariant_of-result
invariant_of-result c =
    (whole_is c.args.ranges.items c.as_slice-items.result.now c.in_ok-new.field-0.value.items.items _ c.new-3.result c.requires c.as_slice-items.ensures
    (ap (λ v. v.items.items) c.in_ok-new.ensures.ok ∙ c.in_ok-counted.ensures) c.new-3.ensures).0

pub returns-clause-same : goal.returns-clause-same
returns-clause-same c =
    (whole_is c.args.ranges.items c.as_slice-items.result.now c.in_ok-new.field-0.value.items.items _ c.new-3.result c.requires c.as_slice-items.ensures
    (ap (λ v. v.items.items) c.in_ok-new.ensures.ok ∙ c.in_ok-counted.ensures) c.new-3.ensures).1

pub returns-clause-domain : goal.returns-clause-domain
returns-clause-domain c =
    marked_domain c.in_ok-new.field-0.value.items.items _ c.new-3.result _ refl
    (whole_is c.args.ranges.items c.as_slice-items.result.now c.in_ok-new.field-0.value.items.items _ c.new-3.result c.requires c.as_slice-items.ensures
    (ap (λ v. v.items.items) c.in_ok-new.ensures.ok ∙ c.in_ok-counted.ensures) c.new-3.ensures).0
