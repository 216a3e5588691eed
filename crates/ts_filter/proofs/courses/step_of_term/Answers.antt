use Rattle.std.proofs.Common.{IfOk, slice_get, subst, sym}
use Rattle.ts_bound.specs.TermSpans.{LooksIn, value_span}
use Rattle.ts_filter.specs.Courses.{IsCourse, IsStep}
use Rattle.ts_filter.specs.KeptCells.{IsKeptIfKnown, Tells}
use Rattle.ts_filter.specs.Tables.{machines_of}
use Rattle.ts_filter.proofs.CourseLaws.{from_own, known_here, machines_stay, none_to_step, of_each, of_this, rows_stay, to_own}
use Rattle.ts_filter.proofs.Refuting.{none_of_term}
use Rattle.ts_filter.proofs.SparedLaws.{kept_of, told_of_each}
use Rattle.ts_filter.proofs.TermsAsked.{looks_of}
use Rattle.ts_filter.proofs.courses.step_of_term.Goals as goal

pub step-requires-clause-looks : goal.step-requires-clause-looks
step-requires-clause-looks g c =
    let each = c.args.each.now.items in let b = c.args.cells.now.present in
    of_this each c.args.term c.index_mut.result.now c.requires.there c.index_mut.ensures.value (λ a. LooksIn a b)
    (looks_of b (machines_of each) c.args.term c.requires.looks)

pub step-requires-clause-course : goal.step-requires-clause-course
step-requires-clause-course g c =
    let each = c.args.each.now.items in let b = c.args.cells.now.present in let rs = c.args.requirements.now in let x = c.index_mut.result.now in
    let term = c.args.term in
    to_own c.in-Some.own rs term c.in-Some.ensures.0 c.in-Some.ensures.1 (λ z t. IsCourse z t x.machine b c.args.course)
    (of_this each term x c.requires.there c.index_mut.ensures.value (λ a. IsCourse rs term a b c.args.course) c.requires.course)

pub step-requires-clause-kept : goal.step-requires-clause-kept
step-requires-clause-kept g c =
    let each = c.args.each.now.items in let b = c.args.cells.now.present in let rs = c.args.requirements.now in let x = c.index_mut.result.now in
    let term = c.args.term in
    subst (IsKeptIfKnown c.in-Some.own.all.now c.in-Some.own.term x.machine b) (sym c.of_term-known.ensures)
    (to_own c.in-Some.own rs term c.in-Some.ensures.0 c.in-Some.ensures.1 (λ z t. IsKeptIfKnown z t x.machine b (slice_get c.args.kept.now term))
    (of_this each term x c.requires.there c.index_mut.ensures.value (λ a. IsKeptIfKnown rs term a b (slice_get c.args.kept.now term))
    (kept_of rs (machines_of each) b c.args.kept.now c.requires.kept term c.requires.looks)))

pub step-requires-clause-spares : goal.step-requires-clause-spares
step-requires-clause-spares g c =
    let each = c.args.each.now.items in let b = c.args.cells.now.present in let rs = c.args.requirements.now in let x = c.index_mut.result.now in
    let term = c.args.term in let spares = c.args.spares.now in
    to_own c.in-Some.own rs term c.in-Some.ensures.0 c.in-Some.ensures.1 (λ z t. Tells g.S.Spares.knows z t x.machine b spares)
    (of_this each term x c.requires.there c.index_mut.ensures.value (λ a. Tells g.S.Spares.knows rs term a b spares)
    (told_of_each g.S.Spares.knows rs (machines_of each) b spares c.requires.spares term c.requires.looks))

pub step-requires-clause-known : goal.step-requires-clause-known
step-requires-clause-known g c =
    known_here c.args.each.now.items c.args.term c.index_mut.result.now c.requires.there c.index_mut.ensures.value c.args.cells.now.present c.requires.known

pub returns-in-Some-clause-machines : goal.returns-in-Some-clause-machines
returns-in-Some-clause-machines g c =
    machines_stay c.args.each.now.items c.args.term c.index_mut.result.now c.requires.there c.index_mut.ensures.value c.step.new.self
    c.step.ensures.known.machine

pub returns-in-Some-clause-known : goal.returns-in-Some-clause-known
returns-in-Some-clause-known g c =
    rows_stay c.args.each.now.items c.args.term c.index_mut.result.now c.requires.there c.index_mut.ensures.value c.args.cells.now.present c.step.new.self
    c.requires.known c.step.ensures.known.known

pub returns-in-Some-clause-step : goal.returns-in-Some-clause-step
returns-in-Some-clause-step g c =
    let each = c.args.each.now.items in let b = c.args.cells.now.present in let rs = c.args.requirements.now in let x = c.index_mut.result.now in
    let term = c.args.term in
    of_each each term x c.requires.there c.index_mut.ensures.value (λ a step. IsStep rs term a b c.args.course step) c.step.result
    (from_own c.in-Some.own rs term c.in-Some.ensures.0 c.in-Some.ensures.1 (λ z t. IfOk c.step.result (λ step. IsStep z t x.machine b c.args.course step))
    c.step.ensures.step)

pub returns-in-None-clause-step : goal.returns-in-None-clause-step
returns-in-None-clause-step g c = λ a has.
    let b = c.args.cells.now.present in
    none_to_step c.args.requirements.now c.args.term a b c.args.course c.requires.going c.ended.result c.ended.ensures
    (λ r d. none_of_term c.args.requirements.now c.args.term (value_span a r.cell b r.value) r.require c.in-None.ensures d.refuting)
