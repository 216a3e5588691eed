use Rattle.std.proofs.Common.{sym, ◌∙◌, subst}
use Rattle.ts_filter.specs.CellHulls.{AtCell, Serves}
use Rattle.ts_filter.specs.Drops.{IsFirstOf}
use Rattle.ts_filter.specs.TermDrops.{IsDropAt}
use Rattle.ts_filter.proofs.DropLaws.{least_outside}
use Rattle.ts_filter.proofs.box_tables.BoxTables.drop_at.Goals as goal

pub returns-then-not-looks_at-clause-found : goal.returns-then-not-looks_at-clause-found
returns-then-not-looks_at-clause-found g c =
    let a = c.args.self.now.machine in let b = c.args.cells.now.present in let own = c.args.own in
    subst (IsFirstOf (IsDropAt own.all.now own.term a b c.args.k)) (sym c.drop_outside.ensures.least)
    (least_outside own.all.now own.term a b c.args.k c.args.outside c.requires.usable (sym c.looks_at.ensures ∙ c.if-not-looks_at.true) c.requires.outside
    c.drop_outside.ensures.domain.rising)

pub drop_in_cell-found-requires-clause-serves : goal.drop_in_cell-found-requires-clause-serves
drop_in_cell-found-requires-clause-serves g c =
    subst (λ (t : AtCell). Serves t c.each_met-asked.result) (sym c.hulls_at.ensures) c.in_ok-make_at.ensures.serves
