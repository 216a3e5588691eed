use Rattle.std.proofs.Common.{IfOk, slice_get, subst, sym}
use Rattle.ts_bound.specs.TermSpans.{LooksIn, value_span}
use Rattle.ts_filter.specs.Courses.{IsCourse}
use Rattle.ts_filter.specs.KeptCells.{IsKeptIfKnown}
use Rattle.ts_filter.specs.Tables.{machines_of}
use Rattle.ts_filter.proofs.CourseLaws.{ended_course, from_own, known_here, machines_stay, of_each, of_this, rows_stay, to_own}
use Rattle.ts_filter.proofs.Refuting.{none_of_term}
use Rattle.ts_filter.proofs.SparedLaws.{kept_of}
use Rattle.ts_filter.proofs.TermsAsked.{looks_of}
use Rattle.ts_filter.proofs.courses.course_of_term.Goals as goal

pub course-requires-clause-looks : goal.course-requires-clause-looks
course-requires-clause-looks c =
    let each = c.args.each.now.items in let b = c.args.cells.now.present in
    of_this each c.args.term c.index_mut.result.now c.requires.there c.index_mut.ensures.value (λ a. LooksIn a b)
    (looks_of b (machines_of each) c.args.term c.requires.looks)

pub course-requires-clause-kept : goal.course-requires-clause-kept
course-requires-clause-kept c =
    let each = c.args.each.now.items in let b = c.args.cells.now.present in let rs = c.args.requirements.now in let x = c.index_mut.result.now in
    let term = c.args.term in
    subst (IsKeptIfKnown c.in-Some.own.all.now c.in-Some.own.term x.machine b) (sym c.of_term.ensures)
    (to_own c.in-Some.own rs term c.in-Some.ensures.0 c.in-Some.ensures.1 (λ z t. IsKeptIfKnown z t x.machine b (slice_get c.args.kept.now term))
    (of_this each term x c.requires.there c.index_mut.ensures.value (λ a. IsKeptIfKnown rs term a b (slice_get c.args.kept.now term))
    (kept_of rs (machines_of each) b c.args.kept.now c.requires.kept term c.requires.looks)))

pub course-requires-clause-known : goal.course-requires-clause-known
course-requires-clause-known c =
    known_here c.args.each.now.items c.args.term c.index_mut.result.now c.requires.there c.index_mut.ensures.value c.args.cells.now.present c.requires.known

pub returns-in-Some-clause-machines : goal.returns-in-Some-clause-machines
returns-in-Some-clause-machines c =
    machines_stay c.args.each.now.items c.args.term c.index_mut.result.now c.requires.there c.index_mut.ensures.value c.course.new.self
    c.course.ensures.known.machine

pub returns-in-Some-clause-known : goal.returns-in-Some-clause-known
returns-in-Some-clause-known c =
    rows_stay c.args.each.now.items c.args.term c.index_mut.result.now c.requires.there c.index_mut.ensures.value c.args.cells.now.present c.course.new.self
    c.requires.known c.course.ensures.known.known

pub returns-in-Some-clause-course : goal.returns-in-Some-clause-course
returns-in-Some-clause-course c =
    let each = c.args.each.now.items in let b = c.args.cells.now.present in let rs = c.args.requirements.now in let x = c.index_mut.result.now in
    let term = c.args.term in
    of_each each term x c.requires.there c.index_mut.ensures.value (λ a course. IsCourse rs term a b course) c.course.result
    (from_own c.in-Some.own rs term c.in-Some.ensures.0 c.in-Some.ensures.1 (λ z t. IfOk c.course.result (λ course. IsCourse z t x.machine b course))
    c.course.ensures.course)

pub returns-in-None-clause-course : goal.returns-in-None-clause-course
returns-in-None-clause-course c = λ a has.
    let b = c.args.cells.now.present in
    ended_course c.args.requirements.now c.args.term a b c.ended.result c.ended.ensures
    (λ r d. none_of_term c.args.requirements.now c.args.term (value_span a r.cell b r.value) r.require c.in-None.ensures d.refuting)
