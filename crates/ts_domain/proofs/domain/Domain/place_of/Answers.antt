use Rattle.std.proofs.Common.{ap, arith}
use Rattle.std.proofs.lemmas.Int.{ints}
use Rattle.ts_domain.proofs.PlaceLaws.{counted, range_has, place_in_range}
use Rattle.ts_domain.proofs.domain.Domain.place_of.Goals as goal

pub overflow_sub-result : goal.overflow_sub-result
overflow_sub-result c =
    let r = c.in-Some.ensures in let between = range_has c.args.self.now c.in-Some.range c.args.v r c.requires in
    omega (arith, ints, between.0, between.1, r.from, r.to)

pub overflow_cast-result : goal.overflow_cast-result
overflow_cast-result c =
    let r = c.in-Some.ensures in let between = range_has c.args.self.now c.in-Some.range c.args.v r c.requires in
    omega (arith, ints, between.0, between.1, r.from, r.to)

pub returns-in-Some : goal.returns-in-Some
returns-in-Some c =
    let r = c.in-Some.ensures in let between = range_has c.args.self.now c.in-Some.range c.args.v r c.requires in
    place_in_range c.args.self.now c.in-Some.range c.args.v _ r c.requires (omega (arith, ints, between.0, between.1, r.from, r.to))

pub with_more-requires-clause-small : goal.with_more-requires-clause-small
with_more-requires-clause-small c =
    let k = counted c.self.inside.ranges.value.items.items c.deref.result.now.items.items c.self.inside.piece c.self.inside.marks _ c.args.v
    c.count_up_to-count.result c.more_up_to.result c.self.view_is c.self.invariant (ap (λ r. r.items.items) c.deref.ensures) c.ranges.v
    (record { sfits = c.more_up_to.type_inv }) c.requires c.count_up_to-count.ensures c.more_up_to.ensures in
    k.small

pub with_more-requires-clause-from : goal.with_more-requires-clause-from
with_more-requires-clause-from c =
    let k = counted c.self.inside.ranges.value.items.items c.deref.result.now.items.items c.self.inside.piece c.self.inside.marks _ c.args.v
    c.count_up_to-count.result c.more_up_to.result c.self.view_is c.self.invariant (ap (λ r. r.items.items) c.deref.ensures) c.ranges.v
    (record { sfits = c.more_up_to.type_inv }) c.requires c.count_up_to-count.ensures c.more_up_to.ensures in
    k.from

pub with_more-requires-clause-to : goal.with_more-requires-clause-to
with_more-requires-clause-to c =
    let k = counted c.self.inside.ranges.value.items.items c.deref.result.now.items.items c.self.inside.piece c.self.inside.marks _ c.args.v
    c.count_up_to-count.result c.more_up_to.result c.self.view_is c.self.invariant (ap (λ r. r.items.items) c.deref.ensures) c.ranges.v
    (record { sfits = c.more_up_to.type_inv }) c.requires c.count_up_to-count.ensures c.more_up_to.ensures in
    k.to

pub overflow_sub-result-2 : goal.overflow_sub-result-2
overflow_sub-result-2 c =
    let k = counted c.self.inside.ranges.value.items.items c.deref.result.now.items.items c.self.inside.piece c.self.inside.marks _ c.args.v
    c.count_up_to-count.result c.more_up_to.result c.self.view_is c.self.invariant (ap (λ r. r.items.items) c.deref.ensures) c.ranges.v
    (record { sfits = c.more_up_to.type_inv }) c.requires c.count_up_to-count.ensures c.more_up_to.ensures in
    k.some c.with_more.result c.with_more.ensures

pub returns : goal.returns
returns c =
    let k = counted c.self.inside.ranges.value.items.items c.deref.result.now.items.items c.self.inside.piece c.self.inside.marks _ c.args.v
    c.count_up_to-count.result c.more_up_to.result c.self.view_is c.self.invariant (ap (λ r. r.items.items) c.deref.ensures) c.ranges.v
    (record { sfits = c.more_up_to.type_inv }) c.requires c.count_up_to-count.ensures c.more_up_to.ensures in
    k.place c.with_more.result c.with_more.ensures
