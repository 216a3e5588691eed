use Rattle.std.proofs.Common.{option_map, refl, subst, sym}
use Rattle.ts_bound.specs.TermSpans.{Automata}
use Rattle.ts_filter.specs.declared.courses.Course.{Course}
use Rattle.ts_filter.specs.Courses.{IsCourse}
use Rattle.ts_filter.proofs.CourseLaws.{begun_course, ended_course}
use Rattle.ts_filter.proofs.Quiet.{quiet_tells}
use Rattle.ts_filter.proofs.box_tables.BoxTables.course.Goals as goal

pub returns-then-is_quiet-clause-course : goal.returns-then-is_quiet-clause-course
returns-then-is_quiet-clause-course c =
    let own = c.args.own in let a = c.args.self.now.machine in let b = c.args.cells.now.present in
    ended_course own.all.now own.term a b c.ended.result c.ended.ensures
    (quiet_tells own own.all.now own.term refl refl b c.args.self.now _ c.requires.looks c.in_ok-outside.ensures.known c.in_ok-outside.outside
    c.is_none.result c.is_none.ensures c.if-is_none.true (c.is_quiet.ensures c.if-is_quiet.true) c.in_ok-outside.ensures.found)

pub first_asked-before-requires : goal.first_asked-before-requires
first_asked-before-requires c = λ k from to. let u = c.asked_for_drops-from.ensures.each k from to in (u.from, u.to)

pub remember-requires-clause-course : goal.remember-requires-clause-course
remember-requires-clause-course c =
    let own = c.args.own in let a = c.args.self.now.machine in let b = c.args.cells.now.present in let asked = c.asked_for_drops-from in
    let next : Course = record { before = c.first_asked-before.result; last = asked.result.1; outside = c.in_ok-outside.outside } in
    subst (λ (x : Automata). IsCourse own.all.now own.term x b next) (sym c.in_ok-outside.ensures.known.machine)
    (begun_course own.all.now own.term a b (option_map (λ t. t.now) c.args.kept) c.requires.kept asked.ensures.domains asked.result.0 asked.result.1
    c.first_asked-before.result c.in_ok-outside.outside _ c.in_ok-outside.ensures.known.machine asked.ensures.each asked.ensures.all
    c.in_ok-outside.ensures.found c.first_asked-before.ensures.passed c.first_asked-before.ensures.from c.first_asked-before.ensures.there)

pub returns-clause-course : goal.returns-clause-course
returns-clause-course c =
    let own = c.args.own in let a = c.args.self.now.machine in let b = c.args.cells.now.present in let asked = c.asked_for_drops-from in
    begun_course own.all.now own.term a b (option_map (λ t. t.now) c.args.kept) c.requires.kept asked.ensures.domains asked.result.0 asked.result.1
    c.first_asked-before.result c.in_ok-outside.outside _ c.in_ok-outside.ensures.known.machine asked.ensures.each asked.ensures.all
    c.in_ok-outside.ensures.found c.first_asked-before.ensures.passed c.first_asked-before.ensures.from c.first_asked-before.ensures.there
