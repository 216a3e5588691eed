use Rattle.std.proofs.Common.{◌≡◌, rules, refl, ap, ◌∙◌}
use Rattle.std.proofs.lemmas.Int.{to_z-of_z}
use mir.Syntax.{w64}
use Rattle.std.specs.Prelude.{int_le}
use Rattle.ts_domain.proofs.MarkKept.{part_given}
use Rattle.ts_domain.proofs.MarkedSets.{marked_domain}
use Rattle.ts_domain.proofs.domain.Domain.low_part.Goals as goal

pub invariant_of-result : goal.invariant_of-result
invariant_of-result c =
    let same : c.in_ok-clone-in-Some.field-0.value.items.items ≡ c.self.inside.ranges.value.items.items = search rules in
    (part_given c.self.inside.ranges.value.items.items c.as_slice.result.now c.in_ok-clone-in-Some.field-0.value.items.items c.self.inside.piece c.in-Some.piece
    c.self.inside.marks c.in_ok-try_clone-in-Some.field-0 _ (λ t v. int_le v t) c.args.t _ c.up_to-in-Some.result c.self.view_is c.self.invariant
    (c.as_slice.ensures ∙ ap (λ r. r.items.items) c.deref.ensures) same (to_z-of_z w64 c.args.t c.ranges.t) c.in-Some.ensures
    c.in_ok-try_clone-in-Some.ensures c.up_to-in-Some.ensures c.requires).0

pub returns-in_ok-try_clone-in-Some-clause-kept : goal.returns-in_ok-try_clone-in-Some-clause-kept
returns-in_ok-try_clone-in-Some-clause-kept c =
    let same : c.in_ok-clone-in-Some.field-0.value.items.items ≡ c.self.inside.ranges.value.items.items = search rules in
    (part_given c.self.inside.ranges.value.items.items c.as_slice.result.now c.in_ok-clone-in-Some.field-0.value.items.items c.self.inside.piece c.in-Some.piece
    c.self.inside.marks c.in_ok-try_clone-in-Some.field-0 _ (λ t v. int_le v t) c.args.t _ c.up_to-in-Some.result c.self.view_is c.self.invariant
    (c.as_slice.ensures ∙ ap (λ r. r.items.items) c.deref.ensures) same (to_z-of_z w64 c.args.t c.ranges.t) c.in-Some.ensures
    c.in_ok-try_clone-in-Some.ensures c.up_to-in-Some.ensures c.requires).1

pub returns-in_ok-try_clone-in-Some-clause-domain : goal.returns-in_ok-try_clone-in-Some-clause-domain
returns-in_ok-try_clone-in-Some-clause-domain c =
    let same : c.in_ok-clone-in-Some.field-0.value.items.items ≡ c.self.inside.ranges.value.items.items = search rules in
    let made = part_given c.self.inside.ranges.value.items.items c.as_slice.result.now c.in_ok-clone-in-Some.field-0.value.items.items c.self.inside.piece
    c.in-Some.piece
    c.self.inside.marks c.in_ok-try_clone-in-Some.field-0 _ (λ t v. int_le v t) c.args.t _ c.up_to-in-Some.result c.self.view_is c.self.invariant
    (c.as_slice.ensures ∙ ap (λ r. r.items.items) c.deref.ensures) same (to_z-of_z w64 c.args.t c.ranges.t) c.in-Some.ensures
    c.in_ok-try_clone-in-Some.ensures c.up_to-in-Some.ensures c.requires in
    marked_domain c.in_ok-clone-in-Some.field-0.value.items.items c.in-Some.piece c.up_to-in-Some.result _ refl made.0
