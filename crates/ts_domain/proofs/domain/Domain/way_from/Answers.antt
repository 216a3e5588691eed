use Rattle.std.proofs.Common.{ap, ◌∙◌}
use Rattle.std.specs.Prelude.{IfSome}
use Rattle.std.proofs.lemmas.Int.{to_z-of_z}
use mir.Syntax.{w64}
use Rattle.ts_domain.specs.Ways.{IsWay}
use Rattle.ts_domain.proofs.Ways.{way_of}
use Rattle.ts_domain.proofs.domain.Domain.way_from.Goals as goal

pub returns : goal.returns
returns c =
    way_of c.self.inside.ranges.value.items.items c.as_slice-ranges.result.now c.self.inside.piece c.self.inside.marks _ c.args.i c.nth_of-next.result _
    (λ l i. IfSome c.way_at.result (IsWay l i)) c.self.view_is c.self.invariant (c.is_empty.ensures.yes c.if-not-is_empty.false)
    (c.as_slice-ranges.ensures ∙ ap (λ r. r.items.items) c.deref.ensures) c.nth_of-next.ensures
    (to_z-of_z w64 c.nth_of-next.result (record { sfits = c.nth_of-next.type_inv })) c.way_at.ensures
