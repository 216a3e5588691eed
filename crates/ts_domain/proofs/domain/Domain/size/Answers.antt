use Rattle.std.proofs.Common.{ap}
use Rattle.std.proofs.lemmas.Int.{to_z-of_z}
use mir.Syntax.{w64}
use Rattle.ts_domain.proofs.MarkedSets.{marked_domain, count_small, gain_from, gain_to, size_is}
use Rattle.ts_domain.proofs.Stretches.{range_domain}
use Rattle.ts_domain.proofs.domain.Domain.size.Goals as goal

pub returns-in-Some-clause-domain : goal.returns-in-Some-clause-domain
returns-in-Some-clause-domain c = range_domain c.args.self.now c.in-Some.range c.in-Some.ensures

pub with_more-requires-clause-small : goal.with_more-requires-clause-small
with_more-requires-clause-small c =
    count_small c.self.inside.ranges.value.items.items c.self.inside.piece c.self.inside.marks _ c.self.view_is c.self.invariant
    c.deref.result.now.items.items c.count_in.result (ap (λ r. r.items.items) c.deref.ensures) c.count_in.ensures

pub with_more-requires-clause-from : goal.with_more-requires-clause-from
with_more-requires-clause-from c =
    gain_from c.self.inside.ranges.value.items.items c.self.inside.piece c.self.inside.marks _ c.self.view_is c.self.invariant
    c.deref.result.now.items.items c.count_in.result c.more.result _ (ap (λ r. r.items.items) c.deref.ensures) c.count_in.ensures c.more.ensures
    (to_z-of_z w64 c.more.result (record { sfits = c.more.type_inv }))

pub with_more-requires-clause-to : goal.with_more-requires-clause-to
with_more-requires-clause-to c =
    gain_to c.self.inside.ranges.value.items.items c.self.inside.piece c.self.inside.marks _ c.self.view_is c.self.invariant
    c.more.result _ c.more.ensures (to_z-of_z w64 c.more.result (record { sfits = c.more.type_inv }))

pub returns-clause-size : goal.returns-clause-size
returns-clause-size c =
    size_is c.self.inside.ranges.value.items.items c.self.inside.piece c.self.inside.marks _ c.self.view_is c.self.invariant
    c.deref.result.now.items.items c.count_in.result c.more.result _ c.with_more.result (ap (λ r. r.items.items) c.deref.ensures) c.count_in.ensures
    c.more.ensures (to_z-of_z w64 c.more.result (record { sfits = c.more.type_inv })) c.with_more.ensures

pub returns-clause-domain : goal.returns-clause-domain
returns-clause-domain c =
    marked_domain c.self.inside.ranges.value.items.items c.self.inside.piece c.self.inside.marks _ c.self.view_is c.self.invariant
