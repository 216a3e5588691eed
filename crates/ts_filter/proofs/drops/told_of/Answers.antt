use Rattle.std.proofs.Common.{◌≡◌, ap, sym, subst, w64, ◌≤ℤ◌}
use Rattle.std.specs.Prelude.{Contains}
use Rattle.std.proofs.lemmas.Int.{to_z-of_z}
use Rattle.ts_filter.specs.Boxes.{values_at}
use Rattle.ts_filter.specs.CellHulls.{AtCell}
use Rattle.ts_filter.specs.KeptCells.{IsFree}
use Rattle.ts_filter.proofs.SparedLaws.{none_of_free}
use Rattle.ts_filter.proofs.drops.told_of.Goals as goal

pub tell-requires-clause-value : goal.tell-requires-clause-value
tell-requires-clause-value g c =
    subst (Contains (values_at c.cell.result c.hulls.inside.cells.now.present)) (sym (to_z-of_z w64 c.args.v c.ranges.v))
    (subst (λ k. Contains (values_at k c.hulls.inside.cells.now.present) c.args.v) (sym c.cell.ensures)
    (subst (λ (z : AtCell). Contains (values_at c.args.hulls.now.cell z.cells) c.args.v) (sym c.hulls.view_is) c.requires.value))

pub returns-clause-answered : goal.returns-clause-answered
returns-clause-answered g c =
    let t = c.args.hulls.now in let own = c.args.own in let tells = c.requires.spares in
    let b : c.hulls.inside.cells.now.present ≡ t.cells = ap (λ (z : AtCell). z.cells) c.hulls.view_is in
    λ on w there from to. none_of_free g.S.Spares.knows own.all.now own.term t.machine t.cells c.args.spares.now t.cell w tells c.requires.usable
    c.requires.many there
    (subst (λ k. IsFree own.all.now tells.spans t.cells own.term k w) c.cell.ensures
    (subst (λ x. IsFree own.all.now tells.spans x own.term c.cell.result w) b
    (c.tell.ensures.free on tells.spans (subst (λ x. g.S.Spares.knows own.all.now tells.spans x c.args.spares.now) (sym b) tells.known) w
    (subst (λ z. z ≤ℤ w) (sym (to_z-of_z w64 c.args.v c.ranges.v)) from) to)))
