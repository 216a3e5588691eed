use Rattle.std.proofs.Common.{Some, ◌-◌, slice_get, arith, sym, ap, ◌∙◌}
use Rattle.std.proofs.lemmas.Int.{ints, to_z-of_z}
use mir.Val.{to_z}
use mir.Syntax.{w64}
use Rattle.ts_domain.proofs.MarkedSets.{marked_domain, at_contains, last_greatest, last_place}
use Rattle.ts_domain.proofs.Stretches.{high_small, greatest_given, last_at}
use Rattle.ts_domain.proofs.domain.Domain.greatest.Goals as goal

pub overflow_sub-high : goal.overflow_sub-high
overflow_sub-high c =
    let small = high_small c.self.inside.ranges.value.items.items c.self.inside.piece c.self.inside.marks c.self.invariant in
    let high = small.0 in let from = small.2 in let to = small.3 in omega (arith, ints, high, from, to)

pub free_to-requires : goal.free_to-requires
free_to-requires c =
    let small = high_small c.self.inside.ranges.value.items.items c.self.inside.piece c.self.inside.marks c.self.invariant in
    let below = small.1 in let to = small.3 in omega (arith, ints, below, to)

pub returns-then-free_to-eq-CELL_VALUE-clause-last : goal.returns-then-free_to-eq-CELL_VALUE-clause-last
returns-then-free_to-eq-CELL_VALUE-clause-last c =
    let ends = greatest_given c.self.inside.ranges.value.items.items c.self.inside.piece c.self.inside.marks _ c.self.view_is c.self.invariant
    c.free_to.result (record { sfits = c.free_to.type_inv }) (ap (to_z w64) c.if-free_to-eq-CELL_VALUE.true) c.free_to.ensures.free in
    last_at c.args.self.now _ (marked_domain c.self.inside.ranges.value.items.items c.self.inside.piece c.self.inside.marks _ c.self.view_is
    c.self.invariant).rising ends.0 ends.1

pub returns-clause-last : goal.returns-clause-last
returns-clause-last c = ap (λ n. slice_get c.args.self.now (n - 1)) (sym c.size.ensures.size) ∙ c.nth.ensures ∙
    ap (λ v. Some v) (sym (to_z-of_z w64 c.nth.result (record { sfits = c.nth.type_inv })))

pub returns-then-free_to-eq-CELL_VALUE-clause-there : goal.returns-then-free_to-eq-CELL_VALUE-clause-there
returns-then-free_to-eq-CELL_VALUE-clause-there c =
    (greatest_given c.self.inside.ranges.value.items.items c.self.inside.piece c.self.inside.marks _ c.self.view_is c.self.invariant c.free_to.result
    (record { sfits = c.free_to.type_inv }) (ap (to_z w64) c.if-free_to-eq-CELL_VALUE.true) c.free_to.ensures.free).0

pub returns-then-free_to-eq-CELL_VALUE-clause-greatest : goal.returns-then-free_to-eq-CELL_VALUE-clause-greatest
returns-then-free_to-eq-CELL_VALUE-clause-greatest c =
    (greatest_given c.self.inside.ranges.value.items.items c.self.inside.piece c.self.inside.marks _ c.self.view_is c.self.invariant c.free_to.result
    (record { sfits = c.free_to.type_inv }) (ap (to_z w64) c.if-free_to-eq-CELL_VALUE.true) c.free_to.ensures.free).1

pub returns-clause-there : goal.returns-clause-there
returns-clause-there c =
    at_contains c.args.self.now _ _ (c.nth.ensures ∙ ap (λ v. Some v) (sym (to_z-of_z w64 c.nth.result (record { sfits = c.nth.type_inv }))))

pub returns-clause-greatest : goal.returns-clause-greatest
returns-clause-greatest c = λ v has.
    last_greatest c.args.self.now _ _ v c.size.ensures.domain.rising
    (last_place c.args.self.now c.size.result c.size.ensures.size c.size.ensures.domain.some)
    (c.nth.ensures ∙ ap (λ v. Some v) (sym (to_z-of_z w64 c.nth.result (record { sfits = c.nth.type_inv })))) has
