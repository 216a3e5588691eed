use mir.Val.{SFits}
use Rattle.std.proofs.Common.{◌<◌, ℤ, [], ◌∷◌, map, length, w64, ap, ◌∙◌, sym, subst, arith, rules}
use Rattle.std.proofs.lemmas.Int.{to_z-of_z}
use Rattle.ts_base.specs.declared.span.Span.{Span}
use Rattle.ts_bound.specs.TermSpans.{value_span}
use Rattle.ts_filter.specs.Boxes.{values_at}
use Rattle.ts_filter.specs.SoFar.{WithParts}
use Rattle.ts_filter.proofs.ManyLaws.{one_place}
use Rattle.ts_filter.proofs.SoFarLaws.{value_canonical}
use Rattle.ts_filter.proofs.cell_hulls.CellHulls.with_places.Goals as goal

pub returns-then-to-from-eq1 : goal.returns-then-to-from-eq1
returns-then-to-from-eq1 c =
    let t = c.args.self.now in let f : ℤ → Span = value_span t.machine t.cell t.cells in let v = c.value_at.result in
    let fits : SFits w64 v = search rules in
    let values = values_at t.cell t.cells in
    let lt : c.args.from < length values = let order = c.requires.order in let inside = c.requires.inside in omega (arith, order, inside) in
    subst (λ (s : Span). WithParts c.args.so_far (s ∷ []) c.with_value.result)
    (ap f (to_z-of_z w64 v fits)
    ∙ sym (one_place f values c.args.from c.args.to v c.if-to-from-eq1.true lt c.value_at.ensures (value_canonical t.machine t.cell t.cells v)))
    c.with_value.ensures
