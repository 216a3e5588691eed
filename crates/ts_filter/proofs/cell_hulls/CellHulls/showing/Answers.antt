use Rattle.ts_bound.specs.TermSpans.{term_span}
use Rattle.ts_filter.proofs.SoFarLaws.{shown_told}
use Rattle.ts_filter.proofs.cell_hulls.CellHulls.showing.Goals as goal

pub returns : goal.returns
returns c =
    let t = c.args.self.now in
    shown_told c.args.asked (term_span t.machine t.cell t.cells) c.with_all.result c.err.result c.err.ensures.value c.with_all.ensures
