use Rattle.std.proofs.Common.{sym, subst}
use Rattle.ts_bound.specs.TermSpans.{term_span}
use Rattle.ts_filter.specs.SoFar.{IsWholeSpan}
use Rattle.ts_filter.specs.TermDrops.{IsFirstRefuting}
use Rattle.ts_filter.proofs.SoFarLaws.{first_found, none_by_whole}
use Rattle.ts_filter.proofs.cell_hulls.CellHulls.first_refuted_by_all.Goals as goal

pub returns-in_err-known : goal.returns-in_err-known
returns-in_err-known c =
    let t = c.args.self.now in let own = c.args.requirements in let whole = term_span t.machine t.cell t.cells in
    subst (IsFirstRefuting own.all.now own.term whole) (sym c.from_residual.ensures)
    (none_by_whole own c.args.asked whole c.requires.asked
    (subst (IsWholeSpan c.args.asked whole) (sym c.in_err-known.ensures.value) c.with_all.ensures))

pub returns : goal.returns
returns c =
    let t = c.args.self.now in let own = c.args.requirements in let span = term_span t.machine t.cell t.cells in
    let whole = subst (IsWholeSpan c.args.asked span) (sym c.in_ok-known.ensures.value) c.with_all.ensures in
    first_found own c.args.asked c.requires.asked c.in_ok-known.known.span span c.first_refuted.result whole.0 c.first_refuted.ensures
