use Rattle.std.proofs.Common.{ap, ◌∙◌, option_map, subst, sym}
use Rattle.ts_bound.specs.TermSpans.{Automata, term_span}
use Rattle.ts_filter.specs.CellHulls.{AtCell}
use Rattle.ts_filter.specs.TermDrops.{IsFirstRefuting}
use Rattle.ts_filter.proofs.Looked.{span_outside}
use Rattle.ts_filter.proofs.SparedLaws.{none_outside}
use Rattle.ts_filter.proofs.box_tables.BoxTables.refuted_outside.Goals as goal

pub returns-clause-found : goal.returns-clause-found
returns-clause-found c = λ k u e.
    let a = c.args.self.now.machine in let b = c.args.cells.now.present in let own = c.args.own in let last = c.ends-first.result.1 in
    subst (λ s. IsFirstRefuting own.all.now own.term s c.first_refuted_by_all.result)
    (ap (λ (x : AtCell). term_span x.machine x.cell x.cells) c.hulls_at.ensures
    ∙ ap (λ (x : Automata). term_span x last b) c.in_ok-make_at.ensures.known.machine
    ∙ ap (λ l. term_span a l b) c.ends-first.ensures.last ∙ span_outside a b k c.requires.looks (u.from, u.to) e)
    c.first_refuted_by_all.ensures

pub returns-then-is_alive-clause-found : goal.returns-then-is_alive-clause-found
returns-then-is_alive-clause-found c =
    none_outside c.args.own.all.now c.args.own.term c.args.self.now.machine c.args.cells.now.present (option_map (λ t. t.now) c.args.kept) c.requires.kept
    (sym c.is_alive.ensures ∙ c.if-is_alive.true)
