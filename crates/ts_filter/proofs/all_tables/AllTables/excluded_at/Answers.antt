use Rattle.std.proofs.Common.{◌≡◌, ◌↔◌, ◌∙◌, IsTrue, None, length}
use Rattle.ts_bound.specs.TermSpans.{LooksIn, term_span}
use Rattle.ts_filter.specs.Question.{Excludes}
use Rattle.ts_filter.proofs.TermsAsked.{asked_of, rows_after, same_after, told_of}
use Rattle.ts_filter.proofs.all_tables.AllTables.excluded_at.Goals as goal

pub excluded_at-told-requires-clause-usable : goal.excluded_at-told-requires-clause-usable
excluded_at-told-requires-clause-usable c =
    asked_of c.self.inside.each.items c.self.view_is c.requires.there c.index_mut-tables.ensures.value
    (λ a. a.pair ≡ None → c.args.p ≡ length c.args.cells.now.present) c.requires.usable

pub excluded_at-told-requires-clause-looks : goal.excluded_at-told-requires-clause-looks
excluded_at-told-requires-clause-looks c =
    asked_of c.self.inside.each.items c.self.view_is c.requires.there c.index_mut-tables.ensures.value
    (λ a. LooksIn a c.args.cells.now.present) c.requires.looks

pub invariant_of-self : goal.invariant_of-self
invariant_of-self c =
    let b = c.args.cells.now.present in
    rows_after c.self.inside.each.items c.self.view_is c.requires.there c.index_mut-tables.ensures.value b c.leave.new.self c.self.invariant c.requires.on
    (c.leave.ensures.known b c.excluded_at-told.ensures.known.known)

pub returns-clause-same : goal.returns-clause-same
returns-clause-same c =
    same_after c.self.inside.each.items c.self.view_is c.requires.there c.index_mut-tables.ensures.value c.leave.new.self
    (c.leave.ensures.machine ∙ c.excluded_at-told.ensures.known.machine)

pub returns-clause-answered : goal.returns-clause-answered
returns-clause-answered c =
    let b = c.args.cells.now.present in
    told_of c.self.inside.each.items c.self.view_is c.requires.there c.index_mut-tables.ensures.value
    (λ a told. IsTrue told ↔ Excludes c.args.asked (term_span a c.args.p b)) c.excluded_at-told.result c.excluded_at-told.ensures.answered
