use Rattle.std.proofs.Common.{refl, ap, ◌∙◌}
use Rattle.std.proofs.lemmas.Int.{to_z-of_z}
use mir.Syntax.{w64}
use Rattle.ts_domain.proofs.MarkedSets.{marked_domain, flipped_given}
use Rattle.ts_domain.proofs.domain.Domain.flip.Goals as goal

pub invariant_of-self : goal.invariant_of-self
invariant_of-self c =
    (flipped_given c.self.inside.ranges.value.items.items c.self.inside.piece c.self.inside.marks _ c.self.view_is c.self.invariant
    c.as_slice.result.now c.args.v _ c.has_in.result c.replace-marks.result c.flipped.result (c.as_slice.ensures ∙ ap (λ r. r.items.items) c.deref.ensures)
    (to_z-of_z w64 c.args.v c.ranges.v) c.has_in.ensures c.requires.limits c.requires.stays c.replace-marks.ensures.value c.flipped.ensures).0

pub returns-clause-out : goal.returns-clause-out
returns-clause-out c =
    (flipped_given c.self.inside.ranges.value.items.items c.self.inside.piece c.self.inside.marks _ c.self.view_is c.self.invariant
    c.as_slice.result.now c.args.v _ c.has_in.result c.replace-marks.result c.flipped.result (c.as_slice.ensures ∙ ap (λ r. r.items.items) c.deref.ensures)
    (to_z-of_z w64 c.args.v c.ranges.v) c.has_in.ensures c.requires.limits c.requires.stays c.replace-marks.ensures.value c.flipped.ensures).1

pub returns-clause-back : goal.returns-clause-back
returns-clause-back c =
    (flipped_given c.self.inside.ranges.value.items.items c.self.inside.piece c.self.inside.marks _ c.self.view_is c.self.invariant
    c.as_slice.result.now c.args.v _ c.has_in.result c.replace-marks.result c.flipped.result (c.as_slice.ensures ∙ ap (λ r. r.items.items) c.deref.ensures)
    (to_z-of_z w64 c.args.v c.ranges.v) c.has_in.ensures c.requires.limits c.requires.stays c.replace-marks.ensures.value c.flipped.ensures).2

pub returns-clause-domain : goal.returns-clause-domain
returns-clause-domain c =
    marked_domain c.self.inside.ranges.value.items.items c.self.inside.piece c.flipped.result _ refl
    (flipped_given c.self.inside.ranges.value.items.items c.self.inside.piece c.self.inside.marks _ c.self.view_is c.self.invariant
    c.as_slice.result.now c.args.v _ c.has_in.result c.replace-marks.result c.flipped.result (c.as_slice.ensures ∙ ap (λ r. r.items.items) c.deref.ensures)
    (to_z-of_z w64 c.args.v c.ranges.v) c.has_in.ensures c.requires.limits c.requires.stays c.replace-marks.ensures.value c.flipped.ensures).0
