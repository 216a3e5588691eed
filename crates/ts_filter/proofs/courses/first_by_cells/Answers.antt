use Rattle.std.proofs.Common.{◌+◌, ◌∙◌, rules, subst, sym, arith}
use Rattle.std.specs.List.{AllByRecursion}
use Rattle.std.specs.Prelude.{IsSome}
use Rattle.ts_bound.specs.TermSpans.{LooksIn}
use Rattle.ts_filter.specs.Courses.{AllFrom, AreAsked, AreCourses}
use Rattle.ts_filter.specs.KeptCells.{AreKept}
use Rattle.ts_filter.specs.MachineSpans.{spans_of}
use Rattle.ts_filter.specs.Tables.{machines_of}
use Rattle.ts_filter.proofs.CourseLaws.{drops_after, first_found, none_found, not_some}
use Rattle.ts_filter.proofs.courses.first_by_cells.Goals as goal

pub loop-before-init : goal.loop-before-init
loop-before-init g c = record {
  machines = c.begin_all.ensures.machines;
  known = c.begin_all.ensures.known;
  courses = c.in_ok-begin_all.ensures.courses;
  from = subst (AllFrom c.least_before-before.result) c.as_slice.ensures.value c.least_before-before.ensures.least;
}

pub drops_at-requires-clause-looks : goal.drops_at-requires-clause-looks
drops_at-requires-clause-looks g c =
    subst (AllByRecursion (λ a. LooksIn a c.args.cells.now.present)) (sym c.loop-before.invariant.machines) c.requires.looks

pub drops_at-requires-clause-kept : goal.drops_at-requires-clause-kept
drops_at-requires-clause-kept g c =
    subst (λ l. AreKept c.args.requirements.now (spans_of l) c.args.cells.now.present c.args.kept.now) (sym c.loop-before.invariant.machines)
    c.requires.kept

pub drops_at-requires-clause-spares : goal.drops_at-requires-clause-spares
drops_at-requires-clause-spares g c =
    subst (λ l. g.S.Spares.knows c.args.requirements.now (spans_of l) c.args.cells.now.present c.args.spares.now) (sym c.loop-before.invariant.machines)
    c.requires.spares

pub drops_at-requires-clause-courses : goal.drops_at-requires-clause-courses
drops_at-requires-clause-courses g c =
    subst (λ l. AreCourses c.args.requirements.now l c.args.cells.now.present c.loop-before.courses.items) (sym c.loop-before.invariant.machines)
    c.loop-before.invariant.courses

pub loop-before-preserved : goal.loop-before-preserved
loop-before-preserved g c =
    let asked = subst (λ l. AreAsked c.args.requirements.now l c.args.cells.now.present c.loop-before.before c.drops_at.new.courses.items c.in_ok-found.found)
    c.loop-before.invariant.machines c.in_ok-found.ensures.asked in record {
      machines = c.drops_at.ensures.machines ∙ c.loop-before.invariant.machines;
      known = c.drops_at.ensures.known;
      courses = asked.courses;
      from = subst (AllFrom c.least_before-before-in-loop-before.result) c.as_slice-in-loop-before.ensures.value
          c.least_before-before-in-loop-before.ensures.least;
    }

pub loop-before-smaller : goal.loop-before-smaller
loop-before-smaller g c =
    let test = c.loop-before-test.true in
    let past = c.in_ok-found.ensures.asked.past (not_some c.in_ok-found.found (sym c.is_some.ensures ∙ c.if-is_some.false)) in
    let next = c.least_before-before-in-loop-before.ensures.greatest (c.loop-before.before + 1) (omega (arith, test))
    (subst (AllFrom (c.loop-before.before + 1)) (sym c.as_slice-in-loop-before.ensures.value) past) in
    omega (arith, test, next)

pub returns-then-is_some-clause-found : goal.returns-then-is_some-clause-found
returns-then-is_some-clause-found g c =
    let rs = c.args.requirements.now in let ms = machines_of c.args.each.now.items in let b = c.args.cells.now.present in
    let some : IsSome c.in_ok-found.found = search rules in let before = c.loop-before.before in let h = c.loop-before.invariant in
    let asked = subst (λ l. AreAsked rs l b before c.drops_at.new.courses.items c.in_ok-found.found) h.machines c.in_ok-found.ensures.asked in
    first_found rs ms b before c.in_ok-found.found
    (λ t d. drops_after rs ms b before c.loop-before.courses.items c.requires.looks h.courses h.from t d) some asked.first

pub returns-clause-found : goal.returns-clause-found
returns-clause-found g c =
    let rs = c.args.requirements.now in let ms = machines_of c.args.each.now.items in let b = c.args.cells.now.present in
    let before = c.loop-before.before in let h = c.loop-before.invariant in let over = c.loop-before-test.false in let count = c.cells-count.ensures.count in
    none_found rs ms b before (λ t d. drops_after rs ms b before c.loop-before.courses.items c.requires.looks h.courses h.from t d)
    (omega (arith, over, count))
