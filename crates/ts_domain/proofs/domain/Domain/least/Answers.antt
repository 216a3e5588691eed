use Rattle.std.proofs.Common.{Some, arith, sym, ap, ◌∙◌}
use Rattle.std.proofs.lemmas.Int.{ints, to_z-of_z}
use mir.Val.{to_z}
use mir.Syntax.{w64}
use Rattle.ts_domain.proofs.CutLaws.{value_within, ends_small}
use Rattle.ts_domain.proofs.MarkedSets.{marked_domain, at_contains, first_least}
use Rattle.ts_domain.proofs.Stretches.{least_given}
use Rattle.ts_domain.proofs.domain.Domain.least.Goals as goal

pub free_to-requires : goal.free_to-requires
free_to-requires c =
    let is = c.self.invariant in let low = (ends_small c.self.inside.ranges.value.items.items c.self.inside.piece is.set.apart is.piece).0 in
    let from = (value_within c.self.inside.ranges.value.items.items c.self.inside.piece.low is.set.apart is.piece.1).0 in omega (arith, ints, low, from)

pub returns-then-free_to-low-clause-value : goal.returns-then-free_to-low-clause-value
returns-then-free_to-low-clause-value c =
    (least_given c.self.inside.ranges.value.items.items c.self.inside.piece c.self.inside.marks _ c.self.view_is c.self.invariant c.free_to.result
    (record { sfits = c.free_to.type_inv }) (ap (to_z w64) c.if-free_to-low.true) c.free_to.ensures.free).value

pub returns-then-free_to-low-clause-there : goal.returns-then-free_to-low-clause-there
returns-then-free_to-low-clause-there c =
    (least_given c.self.inside.ranges.value.items.items c.self.inside.piece c.self.inside.marks _ c.self.view_is c.self.invariant c.free_to.result
    (record { sfits = c.free_to.type_inv }) (ap (to_z w64) c.if-free_to-low.true) c.free_to.ensures.free).there

pub returns-then-free_to-low-clause-first : goal.returns-then-free_to-low-clause-first
returns-then-free_to-low-clause-first c =
    (least_given c.self.inside.ranges.value.items.items c.self.inside.piece c.self.inside.marks _ c.self.view_is c.self.invariant c.free_to.result
    (record { sfits = c.free_to.type_inv }) (ap (to_z w64) c.if-free_to-low.true) c.free_to.ensures.free).first

pub returns-then-free_to-low-clause-least : goal.returns-then-free_to-low-clause-least
returns-then-free_to-low-clause-least c =
    (least_given c.self.inside.ranges.value.items.items c.self.inside.piece c.self.inside.marks _ c.self.view_is c.self.invariant c.free_to.result
    (record { sfits = c.free_to.type_inv }) (ap (to_z w64) c.if-free_to-low.true) c.free_to.ensures.free).least

pub returns-then-free_to-low-clause-domain : goal.returns-then-free_to-low-clause-domain
returns-then-free_to-low-clause-domain c =
    marked_domain c.self.inside.ranges.value.items.items c.self.inside.piece c.self.inside.marks _ c.self.view_is c.self.invariant

pub returns-clause-there : goal.returns-clause-there
returns-clause-there c =
    at_contains c.args.self.now 0 _ (c.nth.ensures ∙ ap (λ v. Some v) (sym (to_z-of_z w64 c.nth.result (record { sfits = c.nth.type_inv }))))

pub returns-clause-least : goal.returns-clause-least
returns-clause-least c = λ v has.
    first_least c.args.self.now _ v
    (marked_domain c.self.inside.ranges.value.items.items c.self.inside.piece c.self.inside.marks _ c.self.view_is c.self.invariant).rising
    (c.nth.ensures ∙ ap (λ v. Some v) (sym (to_z-of_z w64 c.nth.result (record { sfits = c.nth.type_inv })))) has

pub returns-clause-domain : goal.returns-clause-domain
returns-clause-domain c =
    marked_domain c.self.inside.ranges.value.items.items c.self.inside.piece c.self.inside.marks _ c.self.view_is c.self.invariant
