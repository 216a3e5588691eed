use Rattle.std.proofs.Common.{◌≡◌, ◌↔◌, ◌∙◌, ℤ, IsTrue, None, length, subst, w64}
use Rattle.std.specs.Prelude.{IfOk}
use Rattle.std.proofs.lemmas.Int.{to_z-of_z}
use Rattle.ts_bound.specs.TermSpans.{LooksIn, term_span}
use Rattle.ts_filter.specs.Boxes.{only}
use Rattle.ts_filter.specs.Question.{Excludes}
use Rattle.ts_filter.proofs.TermsAsked.{asked_of, rows_after, same_after, told_of}
use Rattle.ts_filter.proofs.all_tables.AllTables.value_excluded_at.Goals as goal

pub value_excluded_at-told-requires-clause-usable : goal.value_excluded_at-told-requires-clause-usable
value_excluded_at-told-requires-clause-usable c =
    asked_of c.self.inside.each.items c.self.view_is c.requires.there c.index_mut-tables.ensures.value
    (λ a. a.pair ≡ None → c.args.k ≡ length c.args.cells.now.present) c.requires.usable

pub value_excluded_at-told-requires-clause-looks : goal.value_excluded_at-told-requires-clause-looks
value_excluded_at-told-requires-clause-looks c =
    asked_of c.self.inside.each.items c.self.view_is c.requires.there c.index_mut-tables.ensures.value
    (λ a. LooksIn a c.args.cells.now.present) c.requires.looks

pub invariant_of-self : goal.invariant_of-self
invariant_of-self c =
    let b = c.args.cells.now.present in
    rows_after c.self.inside.each.items c.self.view_is c.requires.there c.index_mut-tables.ensures.value b c.leave.new.self c.self.invariant c.requires.on
    (c.leave.ensures.known b c.value_excluded_at-told.ensures.known.known)

pub returns-clause-same : goal.returns-clause-same
returns-clause-same c =
    same_after c.self.inside.each.items c.self.view_is c.requires.there c.index_mut-tables.ensures.value c.leave.new.self
    (c.leave.ensures.machine ∙ c.value_excluded_at-told.ensures.known.machine)

pub returns-clause-answered : goal.returns-clause-answered
returns-clause-answered c =
    let b = c.args.cells.now.present in let k = c.args.k in
    told_of c.self.inside.each.items c.self.view_is c.requires.there c.index_mut-tables.ensures.value
    (λ a told. IsTrue told ↔ Excludes c.args.asked (term_span a k (only k c.args.v b))) c.value_excluded_at-told.result
    (subst
    (λ (v : ℤ). IfOk c.value_excluded_at-told.result (λ told. IsTrue told ↔ Excludes c.args.asked (term_span c.index_mut-tables.result.now.machine k (only k v b))))
    (to_z-of_z w64 c.args.v c.ranges.v) c.value_excluded_at-told.ensures.answered)
