use Rattle.std.proofs.Common.{◌↔◌, ◌≡◌, true, subst, w64, ℤ}
use Rattle.std.proofs.lemmas.Int.{to_z-of_z}
use Rattle.ts_bound.specs.TermSpans.{value_span}
use Rattle.ts_filter.specs.Question.{Excludes}
use Rattle.ts_filter.proofs.SoFarLaws.{alone_told}
use Rattle.ts_filter.proofs.cell_hulls.CellHulls.excludes_at.Goals as goal

pub returns : goal.returns
returns c =
    let t = c.args.self.now in
    subst (λ (v : ℤ). (c.is_some.result ≡ true) ↔ Excludes c.args.asked (value_span t.machine t.cell t.cells v)) (to_z-of_z w64 c.args.v c.ranges.v)
    (alone_told c.none.result c.args.asked _ c.none.ensures.asked c.none.ensures.span c.with_value.result c.is_some.result c.is_some.ensures
    c.with_value.ensures)
