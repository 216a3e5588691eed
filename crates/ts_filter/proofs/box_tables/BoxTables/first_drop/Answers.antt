use Rattle.std.proofs.Common.{◌∙◌, rules, option_map, subst, sym, arith}
use Rattle.std.specs.Prelude.{IsSome}
use Rattle.ts_bound.specs.TermSpans.{Automata}
use Rattle.ts_filter.specs.Courses.{IsCourse, IsStep}
use Rattle.ts_filter.specs.KeptCells.{IsKeptIfKnown, Tells}
use Rattle.ts_filter.proofs.CourseLaws.{none_before, not_some}
use Rattle.ts_filter.proofs.DropLaws.{first_up_to}
use Rattle.ts_filter.proofs.box_tables.BoxTables.first_drop.Goals as goal

pub loop-course-init : goal.loop-course-init
loop-course-init g c = record { known = c.in_ok-course.ensures.known; course = c.in_ok-course.ensures.course }

pub step-requires-clause-course : goal.step-requires-clause-course
step-requires-clause-course g c =
    let own = c.args.own in let b = c.args.cells.now.present in
    subst (λ (a : Automata). IsCourse own.all.now own.term a b c.loop-course.course) (sym c.loop-course.invariant.known.machine) c.loop-course.invariant.course

pub step-requires-clause-kept : goal.step-requires-clause-kept
step-requires-clause-kept g c =
    let own = c.args.own in let b = c.args.cells.now.present in
    subst (λ (a : Automata). IsKeptIfKnown own.all.now own.term a b (option_map (λ t. t.now) c.args.kept)) (sym c.loop-course.invariant.known.machine)
    c.requires.kept

pub step-requires-clause-spares : goal.step-requires-clause-spares
step-requires-clause-spares g c =
    let own = c.args.own in let b = c.args.cells.now.present in
    subst (λ (a : Automata). Tells g.S.Spares.knows own.all.now own.term a b c.args.spares.now) (sym c.loop-course.invariant.known.machine) c.requires.spares

pub loop-course-preserved : goal.loop-course-preserved
loop-course-preserved g c =
    let own = c.args.own in let b = c.args.cells.now.present in record {
      known = record {
        machine = c.in_ok-step.ensures.known.machine ∙ c.loop-course.invariant.known.machine;
        known = c.in_ok-step.ensures.known.known;
      };
      course = subst (λ (a : Automata). IsCourse own.all.now own.term a b c.in_ok-step.step.course) c.loop-course.invariant.known.machine
          c.in_ok-step.ensures.step.course;
    }

pub loop-course-smaller : goal.loop-course-smaller
loop-course-smaller g c =
    let l = c.in_ok-step.ensures.step.past (not_some c.in_ok-step.step.found (sym c.is_some.ensures ∙ c.if-is_some.false)) in
    let below = c.loop-course-test.true in omega (arith, l, below)

pub returns-then-is_some-clause-found : goal.returns-then-is_some-clause-found
returns-then-is_some-clause-found g c =
    let own = c.args.own in let a = c.args.self.now.machine in let b = c.args.cells.now.present in let h = c.loop-course.invariant.course in
    let some : IsSome c.in_ok-step.step.found = search rules in
    let s = subst (λ (x : Automata). IsStep own.all.now own.term x b c.loop-course.course c.in_ok-step.step) c.loop-course.invariant.known.machine
    c.in_ok-step.ensures.step in
    first_up_to own.all.now own.term a b c.loop-course.course.before c.args.last c.in_ok-step.step.found some (λ t d. (h.holds t d).0) s.found
    (let below = c.loop-course-test.true in omega (arith, below))

pub returns-clause-found : goal.returns-clause-found
returns-clause-found g c =
    none_before c.args.own.all.now c.args.own.term c.args.self.now.machine c.args.cells.now.present c.loop-course.course c.loop-course.invariant.course
    c.args.last (let over = c.loop-course-test.false in omega (arith, over))
