use Rattle.std.proofs.Common.{◌∙◌, ◌+◌, option_map, rules, subst, sym, arith, w64}
use Rattle.std.proofs.lemmas.Int.{to_z-of_z}
use Rattle.std.specs.Prelude.{IsSome}
use Rattle.ts_bound.specs.TermSpans.{Automata}
use Rattle.ts_filter.specs.declared.courses.Course.{Course}
use Rattle.ts_filter.specs.Courses.{IsCourse}
use Rattle.ts_filter.specs.KeptCells.{IsSparedAt}
use Rattle.ts_filter.proofs.CourseLaws.{next_course, next_usable, step_found, step_on}
use Rattle.ts_filter.proofs.SparedLaws.{spared_at}
use Rattle.ts_filter.proofs.box_tables.BoxTables.step.Goals as goal

pub drop_at-requires-clause-usable : goal.drop_at-requires-clause-usable
drop_at-requires-clause-usable g c =
    next_usable c.args.own.all.now c.args.own.term c.args.self.now.machine c.args.cells.now.present c.args.course c.requires.course c.requires.going

pub drop_at-requires-clause-outside : goal.drop_at-requires-clause-outside
drop_at-requires-clause-outside g c = (c.requires.course.going c.requires.going).2

pub drop_at-requires-clause-spared : goal.drop_at-requires-clause-spared
drop_at-requires-clause-spared g c =
    let a = c.args.self.now.machine in let b = c.args.cells.now.present in let own = c.args.own in let limit = c.spared_to-limit.result in
    subst (IsSparedAt own.all.now own.term a b (c.args.course.before + 1)) (sym (to_z-of_z w64 limit (search rules)))
    (spared_at own.all.now own.term a b (option_map (λ t. t.now) c.args.kept) c.requires.kept (c.args.course.before + 1) limit (omega arith)
    c.spared_to-limit.ensures)

pub returns-then-is_some-clause-step : goal.returns-then-is_some-clause-step
returns-then-is_some-clause-step g c =
    let some : IsSome c.in_ok-found.found = search rules in
    step_found c.args.own.all.now c.args.own.term c.args.self.now.machine c.args.cells.now.present c.args.course c.requires.course c.in_ok-found.found some
    c.in_ok-found.ensures.found

pub first_asked-before-requires : goal.first_asked-before-requires
first_asked-before-requires g c = λ k from to. let u = c.requires.course.usable k (omega (arith, from)) to in (u.from, u.to)

pub remember-requires-clause-course : goal.remember-requires-clause-course
remember-requires-clause-course g c =
    let own = c.args.own in let a = c.args.self.now.machine in let b = c.args.cells.now.present in
    let next : Course = record { before = c.first_asked-before.result; last = c.args.course.last; outside = c.args.course.outside } in
    subst (λ (x : Automata). IsCourse own.all.now own.term x b next) (sym c.in_ok-found.ensures.known.machine)
    (next_course own.all.now own.term a b c.args.course c.requires.course (option_map (λ t. t.now) c.args.kept) c.requires.kept
    c.first_asked-before.result c.in_ok-found.found (sym c.is_some.ensures ∙ c.if-is_some.false) c.requires.going c.in_ok-found.ensures.found
    c.first_asked-before.ensures.passed c.first_asked-before.ensures.from c.first_asked-before.ensures.there)

pub returns-clause-step : goal.returns-clause-step
returns-clause-step g c =
    let own = c.args.own in let a = c.args.self.now.machine in let b = c.args.cells.now.present in
    step_on own.all.now own.term a b c.args.course c.requires.course _ c.in_ok-found.found c.in_ok-found.ensures.found
    (next_course own.all.now own.term a b c.args.course c.requires.course (option_map (λ t. t.now) c.args.kept) c.requires.kept
    c.first_asked-before.result c.in_ok-found.found (sym c.is_some.ensures ∙ c.if-is_some.false) c.requires.going c.in_ok-found.ensures.found
    c.first_asked-before.ensures.passed c.first_asked-before.ensures.from c.first_asked-before.ensures.there)
    c.first_asked-before.ensures.from
