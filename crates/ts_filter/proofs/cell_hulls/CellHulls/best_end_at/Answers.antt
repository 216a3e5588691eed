use Rattle.std.proofs.Common.{ap, ◌∙◌, of_z, to_z, w64, ℤ}
use Rattle.std.proofs.lemmas.Int.{to_z-of_z}
use Rattle.ts_bound.specs.TermSpans.{value_span}
use Rattle.ts_filter.specs.Ends.{best_end}
use Rattle.ts_filter.proofs.SoFarLaws.{alone_best, value_canonical}
use Rattle.ts_filter.proofs.cell_hulls.CellHulls.best_end_at.Goals as goal

pub returns : goal.returns
returns c =
    let t = c.args.self.now in let v = to_z w64 (of_z w64 c.args.v) in
    c.best_end.ensures
    ∙ alone_best c.none.result c.in-Some.known c.args.goal (value_span t.machine t.cell t.cells v) c.none.ensures.asked c.none.ensures.span
    (value_canonical t.machine t.cell t.cells v) c.in-Some.ensures
    ∙ ap (λ (w : ℤ). best_end c.args.goal (value_span t.machine t.cell t.cells w)) (to_z-of_z w64 c.args.v c.ranges.v)
