use Rattle.std.proofs.Common.{None, sym, subst, of_z, to_z, w64, ℤ}
use Rattle.std.proofs.lemmas.Int.{to_z-of_z}
use Rattle.ts_bound.specs.TermSpans.{value_span}
use Rattle.ts_filter.specs.TermDrops.{IsFirstRefuting}
use Rattle.ts_filter.proofs.SoFarLaws.{alone_found, first_found, none_refuted}
use Rattle.ts_filter.proofs.cell_hulls.CellHulls.first_refuted.Goals as goal

pub returns-in_err-known : goal.returns-in_err-known
returns-in_err-known c =
    let t = c.args.self.now in let own = c.args.requirements in
    subst (IsFirstRefuting own.all.now own.term (value_span t.machine t.cell t.cells c.args.v)) (sym c.from_residual.ensures)
    (subst (λ (v : ℤ). IsFirstRefuting own.all.now own.term (value_span t.machine t.cell t.cells v) None) (to_z-of_z w64 c.args.v c.ranges.v)
    (none_refuted c.none.result c.args.asked _ c.none.ensures.asked c.none.ensures.span own c.requires.asked c.in_err-known.ensures))

pub returns : goal.returns
returns c =
    let t = c.args.self.now in let own = c.args.requirements in
    subst (λ (v : ℤ). IsFirstRefuting own.all.now own.term (value_span t.machine t.cell t.cells v) c.first_refuted.result) (to_z-of_z w64 c.args.v c.ranges.v)
    (first_found own c.args.asked c.requires.asked c.in_ok-known.known.span (value_span t.machine t.cell t.cells (to_z w64 (of_z w64 c.args.v)))
    c.first_refuted.result
    (alone_found c.none.result c.args.asked (value_span t.machine t.cell t.cells (to_z w64 (of_z w64 c.args.v))) c.none.ensures.asked
    c.none.ensures.span c.in_ok-known.known c.in_ok-known.ensures) c.first_refuted.ensures)
