use Rattle.std.proofs.Common.{refl, ap, ◌∙◌}
use Rattle.std.proofs.lemmas.Int.{to_z-of_z}
use mir.Syntax.{w64}
use Rattle.ts_domain.specs.Marks.{mark_at}
use Rattle.ts_domain.proofs.MarkedSets.{has_marked, has_given}
use Rattle.ts_domain.proofs.Stretches.{range_contains}
use Rattle.ts_domain.proofs.domain.Domain.contains.Goals as goal

pub returns-in-Some : goal.returns-in-Some
returns-in-Some c =
    range_contains c.args.self.now c.in-Some.range c.args.v _ c.has.result c.in-Some.ensures (to_z-of_z w64 c.args.v c.ranges.v) c.has.ensures

pub returns-in-Some-at : goal.returns-in-Some-at
returns-in-Some-at c =
    has_marked c.self.inside.ranges.value.items.items c.self.inside.piece c.self.inside.marks _ c.self.view_is c.self.invariant
    c.args.v c.in-Some-at.gone _ (c.in-Some-at.ensures ∙ ap (λ v. mark_at v c.self.inside.marks) (to_z-of_z w64 c.args.v c.ranges.v)) refl

pub returns-in-None : goal.returns-in-None
returns-in-None c =
    has_given c.self.inside.ranges.value.items.items c.self.inside.piece c.self.inside.marks _ c.self.view_is c.self.invariant
    c.as_slice.result.now c.args.v _ c.has_in.result (c.as_slice.ensures ∙ ap (λ r. r.items.items) c.deref.ensures)
    (to_z-of_z w64 c.args.v c.ranges.v) c.in-None.ensures c.has_in.ensures
