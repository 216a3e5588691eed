use Rattle.std.proofs.Common.{ap, ◌∙◌}
use Rattle.ts_domain.proofs.MarkedSets.{marked_domain}
use Rattle.ts_domain.proofs.Stretches.{run_given}
use Rattle.ts_domain.proofs.domain.Domain.run_end.Goals as goal

pub returns-clause-all : goal.returns-clause-all
returns-clause-all c =
    run_given c.self.inside.ranges.value.items.items c.as_slice.result.now c.self.inside.piece c.self.inside.marks _ c.args.v c.end_in-end.result
    c.free_to.result c.self.view_is c.self.invariant (c.as_slice.ensures ∙ ap (λ r. r.items.items) c.deref.ensures) c.ranges.v
    (record { sfits = c.end_in-end.type_inv }) (record { sfits = c.free_to.type_inv }) c.requires c.end_in-end.ensures.all c.free_to.ensures.to
    c.free_to.ensures.free

pub returns-clause-domain : goal.returns-clause-domain
returns-clause-domain c =
    marked_domain c.self.inside.ranges.value.items.items c.self.inside.piece c.self.inside.marks _ c.self.view_is c.self.invariant
