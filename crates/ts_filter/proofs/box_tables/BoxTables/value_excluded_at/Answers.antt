use Rattle.std.proofs.Common.{◌↔◌, ◌∙◌, sym, ap, subst, w64}
use Rattle.std.proofs.lemmas.Int.{to_z-of_z}
use Rattle.std.specs.Prelude.{IfOk, IsTrue}
use Rattle.ts_bound.specs.TermSpans.{Automata, value_span}
use Rattle.ts_bound.proofs.Reached.{values_narrowed}
use Rattle.ts_filter.specs.Question.{Excludes}
use Rattle.ts_filter.specs.CellHulls.{AtCell, HasHulls}
use Rattle.ts_filter.proofs.Looked.{hulls_inside, value_outside}
use Rattle.ts_filter.proofs.box_tables.BoxTables.value_excluded_at.Goals as goal

pub make_at-requires-clause-hulls : goal.make_at-requires-clause-hulls
make_at-requires-clause-hulls c =
    hulls_inside c.args.self.now.machine c.args.cells.now.present c.args.k c.requires.looks c.requires.cell c.requires.usable
    (sym c.looks_at.ensures ∙ c.if-not-looks_at.false)

pub hulls_at-requires-clause-hulls : goal.hulls_at-requires-clause-hulls
hulls_at-requires-clause-hulls c =
    subst (λ (a : Automata). HasHulls a c.args.k c.args.cells.now.present) (sym c.in_ok-make_at.ensures.known.machine)
    (hulls_inside c.args.self.now.machine c.args.cells.now.present c.args.k c.requires.looks c.requires.cell c.requires.usable
    (sym c.looks_at.ensures ∙ c.if-not-looks_at.false))

pub returns-clause-answered : goal.returns-clause-answered
returns-clause-answered c =
    let b = c.args.cells.now.present in let k = c.args.k in let v = c.args.v in let h = c.hulls_at.result in
    subst (λ s. IsTrue c.value_excludes.result ↔ Excludes c.args.asked s)
    (ap (value_span h.machine h.cell h.cells) (to_z-of_z w64 v c.ranges.v)
    ∙ ap (λ (x : AtCell). value_span x.machine x.cell x.cells v) c.hulls_at.ensures
    ∙ ap (λ (a : Automata). value_span a k b v) c.in_ok-make_at.ensures.known.machine
    ∙ sym (values_narrowed c.args.self.now.machine b c.requires.looks k c.requires.cell.0 c.requires.cell.1 v))
    c.value_excludes.ensures

pub returns-then-not-looks_at-clause-answered : goal.returns-then-not-looks_at-clause-answered
returns-then-not-looks_at-clause-answered c =
    let a = c.args.self.now.machine in let b = c.args.cells.now.present in let k = c.args.k in let v = c.args.v in
    subst (λ s. IfOk c.excluded_at.result (λ told. IsTrue told ↔ Excludes c.args.asked s))
    (sym (values_narrowed a b c.requires.looks k c.requires.cell.0 c.requires.cell.1 v
    ∙ value_outside a k b v (sym c.looks_at.ensures ∙ c.if-not-looks_at.true)))
    c.excluded_at.ensures.answered
