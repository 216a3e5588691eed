use Rattle.std.proofs.Common.{◌≡◌, ◌↔◌, false, true, Some, None, refl, ap, ◌∙◌, sym, subst}
use Rattle.ts_base.specs.declared.span.Span.{Span}
use Rattle.ts_bound.specs.TermSpans.{Automata, term_span}
use Rattle.ts_filter.specs.CellHulls.{AtCell, HasHulls}
use Rattle.ts_filter.specs.Question.{Excludes}
use Rattle.ts_filter.proofs.Looked.{read_hulls, span_read}
use Rattle.ts_filter.proofs.box_tables.BoxTables.excluded_at.Goals as goal

pub make_at-requires-clause-hulls : goal.make_at-requires-clause-hulls
make_at-requires-clause-hulls c =
    read_hulls c.args.self.now.machine c.args.cells.now.present c.args.p c.read_at-k.result c.requires.looks c.requires.cell c.requires.usable
    c.read_at-k.ensures

pub hulls_at-requires-clause-hulls : goal.hulls_at-requires-clause-hulls
hulls_at-requires-clause-hulls c =
    subst (λ (a : Automata). HasHulls a c.read_at-k.result c.args.cells.now.present) (sym c.in_ok-make_at.ensures.known.machine)
    (read_hulls c.args.self.now.machine c.args.cells.now.present c.args.p c.read_at-k.result c.requires.looks c.requires.cell c.requires.usable
    c.read_at-k.ensures)

pub returns-in-None-clause-answered : goal.returns-in-None-clause-answered
returns-in-None-clause-answered c =
    let b = c.args.cells.now.present in let k = c.read_at-k.result in
    let told = subst (λ (s : Span). (c.showing-value.result ≡ None) ↔ Excludes c.args.asked s)
    (ap (λ (x : AtCell). term_span x.machine x.cell x.cells) c.hulls_at.ensures
    ∙ ap (λ (a : Automata). term_span a k b) c.in_ok-make_at.ensures.known.machine
    ∙ span_read c.args.self.now.machine b c.args.p k c.requires.looks c.requires.cell c.read_at-k.ensures)
    c.showing-value.ensures in
    (λ so. told.0 c.in-None.is, λ none. refl)

pub returns-in_ok-keep_likely-in-Some-clause-answered : goal.returns-in_ok-keep_likely-in-Some-clause-answered
returns-in_ok-keep_likely-in-Some-clause-answered c =
    let b = c.args.cells.now.present in let k = c.read_at-k.result in
    let told = subst (λ (s : Span). (c.showing-value.result ≡ None) ↔ Excludes c.args.asked s)
    (ap (λ (x : AtCell). term_span x.machine x.cell x.cells) c.hulls_at.ensures
    ∙ ap (λ (a : Automata). term_span a k b) c.in_ok-make_at.ensures.known.machine
    ∙ span_read c.args.self.now.machine b c.args.p k c.requires.looks c.requires.cell c.read_at-k.ensures)
    c.showing-value.ensures in
    (λ so. absurd (let f : ◌≡◌ false true = so in cc), λ none. absurd (let f : ◌≡◌ (Some c.in-Some.v) None = sym c.in-Some.is ∙ told.1 none in cc))
