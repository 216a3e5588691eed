use Rattle.std.proofs.Common.{◌≡◌, ◌∙◌, Some, ap, length, refl, slice_get, subst, sym, arith}
use Rattle.std.proofs.lemmas.List.{length-set}
use Rattle.std.proofs.lemmas.Option.{slice_get_read}
use Rattle.std.specs.List.{AllByRecursion}
use Rattle.ts_bound.specs.TermSpans.{LooksIn}
use Rattle.ts_filter.specs.Courses.{IsStep}
use Rattle.ts_filter.specs.KeptCells.{AreKept}
use Rattle.ts_filter.specs.MachineSpans.{spans_of}
use Rattle.ts_filter.specs.OfTerm.{OfTerm}
use Rattle.ts_filter.specs.Tables.{machines_of}
use Rattle.ts_filter.proofs.CourseLaws.{all_asked, as_machines, none_asked, one_asked, passed_over}
use Rattle.ts_filter.proofs.courses.drops_at.Goals as goal

pub loop-i-init : goal.loop-i-init
loop-i-init g c = record {
  machines = refl;
  known = c.requires.known;
  asked = none_asked c.args.requirements.now (machines_of c.args.each.now.items) c.args.cells.now.present c.args.before c.args.courses.now.items
      c.requires.courses c.requires.from;
  count = refl;
}

pub index-next-requires : goal.index-next-requires
index-next-requires g c =
    let count = c.loop-i.invariant.count in let ok = c.loop-i.courses.ok in omega (arith, c.loop-i-test.true, c.len-i-end.ensures, count, ok)

pub loop-i-preserved-then-next-before : goal.loop-i-preserved-then-next-before
loop-i-preserved-then-next-before g c =
    let count = c.loop-i.invariant.count in record {
      machines = c.loop-i.invariant.machines;
      known = c.loop-i.invariant.known;
      asked = passed_over c.args.requirements.now (machines_of c.args.each.now.items) c.args.cells.now.present c.args.before c.loop-i.i
          c.loop-i.courses.items c.loop-i.first c.index-next.result.now c.requires.looks
          (slice_get_read c.loop-i.courses.items _ c.loop-i.i c.index-next.result.now refl (omega (arith, c.loop-i-test.true, c.len-i-end.ensures, count))
          c.index-next.ensures) c.loop-i.invariant.asked c.if-next-before.true;
      count = count;
    }

pub step_of_term-requires-clause-there : goal.step_of_term-requires-clause-there
step_of_term-requires-clause-there g c =
    let count = c.loop-i.invariant.count in let long = as_machines c.loop-i.each.items in
    let same = ap length c.loop-i.invariant.machines in
    let below = (c.loop-i.invariant.asked.courses.each c.loop-i.i c.index-next.result.now (slice_get_read c.loop-i.courses.items _ c.loop-i.i
    c.index-next.result.now refl (omega (arith, c.loop-i-test.true, c.len-i-end.ensures, count)) c.index-next.ensures)).0 in
    omega (arith, long, same, below)

pub step_of_term-requires-clause-looks : goal.step_of_term-requires-clause-looks
step_of_term-requires-clause-looks g c =
    subst (AllByRecursion (λ a. LooksIn a c.args.cells.now.present)) (sym c.loop-i.invariant.machines) c.requires.looks

pub step_of_term-requires-clause-kept : goal.step_of_term-requires-clause-kept
step_of_term-requires-clause-kept g c =
    subst (λ l. AreKept c.args.requirements.now (spans_of l) c.args.cells.now.present c.args.kept.now) (sym c.loop-i.invariant.machines) c.requires.kept

pub step_of_term-requires-clause-spares : goal.step_of_term-requires-clause-spares
step_of_term-requires-clause-spares g c =
    subst (λ l. g.S.Spares.knows c.args.requirements.now (spans_of l) c.args.cells.now.present c.args.spares.now) (sym c.loop-i.invariant.machines)
    c.requires.spares

pub step_of_term-requires-clause-going : goal.step_of_term-requires-clause-going
step_of_term-requires-clause-going g c =
    let same = c.if-next-before.false in let l = c.requires.going in omega (arith, same, l)

pub step_of_term-requires-clause-course : goal.step_of_term-requires-clause-course
step_of_term-requires-clause-course g c = λ a has.
    let count = c.loop-i.invariant.count in let next = c.index-next.result.now in
    (c.loop-i.invariant.asked.courses.each c.loop-i.i next (slice_get_read c.loop-i.courses.items _ c.loop-i.i next refl
    (omega (arith, c.loop-i-test.true, c.len-i-end.ensures, count)) c.index-next.ensures)).1 a
    (subst (λ l. slice_get l next.term ≡ Some a) c.loop-i.invariant.machines has)

pub index_mut-requires : goal.index_mut-requires
index_mut-requires g c =
    let count = c.loop-i.invariant.count in let ok = c.loop-i.courses.ok in omega (arith, c.loop-i-test.true, c.len-i-end.ensures, count, ok)

pub loop-i-preserved : goal.loop-i-preserved
loop-i-preserved g c =
    let count = c.loop-i.invariant.count in let rs = c.args.requirements.now in let ms = machines_of c.args.each.now.items in
    let b = c.args.cells.now.present in let next = c.index-next.result.now in let cs = c.loop-i.courses.items in record {
      machines = c.step_of_term.ensures.machines ∙ c.loop-i.invariant.machines;
      known = c.step_of_term.ensures.known;
      asked = one_asked rs ms b c.args.before c.loop-i.i cs c.loop-i.first next c.requires.looks
          (slice_get_read cs _ c.loop-i.i next refl (omega (arith, c.loop-i-test.true, c.len-i-end.ensures, count)) c.index-next.ensures)
          c.loop-i.invariant.asked c.in_ok-step.step (let same = c.if-next-before.false in omega (arith, same))
          (subst (λ l. OfTerm l next.term (λ a. IsStep rs next.term a b next.course c.in_ok-step.step)) c.loop-i.invariant.machines
          c.in_ok-step.ensures.step) _ _ refl c.earlier-first.ensures;
      count = length-set cs c.loop-i.i (record { term = next.term; course = c.in_ok-step.step.course }) ∙ count;
    }

pub returns-clause-asked : goal.returns-clause-asked
returns-clause-asked g c =
    let count = c.loop-i.invariant.count in let over = c.loop-i-test.false in let is = c.len-i-end.ensures in
    all_asked c.args.requirements.now (machines_of c.args.each.now.items) c.args.cells.now.present c.args.before c.loop-i.i c.loop-i.courses.items
    c.loop-i.first (omega (arith, over, is, count)) c.loop-i.invariant.asked
