use Rattle.std.proofs.Common.{◌<◌, ◌∙◌, ap, get_or, length, refl, subst, sym, arith}
use Rattle.std.proofs.lemmas.Option.{get_or_from_slice_get, slice_get-get_or}
use Rattle.std.specs.List.{AllByRecursion}
use Rattle.ts_bound.specs.TermSpans.{LooksIn}
use Rattle.ts_base.specs.declared.ext.Ext.TheVariants.{NegInf}
use Rattle.ts_model.specs.declared.model.Op.TheVariants.{Equal}
use Rattle.ts_model.specs.declared.model.Require.{Require}
use Rattle.ts_filter.specs.Courses.{HasCourse, IsCourse}
use Rattle.ts_filter.specs.KeptCells.{AreKept}
use Rattle.ts_filter.specs.MachineSpans.{spans_of}
use Rattle.ts_filter.specs.OfTerm.{OfTerm}
use Rattle.ts_filter.specs.Tables.{machines_of}
use Rattle.ts_filter.proofs.CourseLaws.{all_begun, as_machines, none_begun, one_begun, was_begun}
use Rattle.ts_filter.proofs.SoundLaws.{each_at}
use Rattle.ts_filter.proofs.courses.begin_all.Goals as goal

-- what the code reads past the last requirement
abbrev none_there : Require
none_there = record { term = 0; op = Equal; bound = NegInf }

pub course_of_term-requires-clause-there : goal.course_of_term-requires-clause-there
course_of_term-requires-clause-there c =
    let rs = c.args.requirements.now in let long = as_machines c.loop-at.each.items in
    let below = each_at (λ (r : Require). r.term < length (machines_of c.args.each.now.items)) rs c.loop-at.at _ c.requires.terms
    (slice_get-get_or rs c.loop-at.at none_there c.loop-at-test.true) in
    let same = ap length c.loop-at.invariant.machines in
    omega (arith, long, below, same)

pub course_of_term-requires-clause-looks : goal.course_of_term-requires-clause-looks
course_of_term-requires-clause-looks c =
    subst (AllByRecursion (λ a. LooksIn a c.args.cells.now.present)) (sym c.loop-at.invariant.machines) c.requires.looks

pub course_of_term-requires-clause-kept : goal.course_of_term-requires-clause-kept
course_of_term-requires-clause-kept c =
    subst (λ l. AreKept c.args.requirements.now (spans_of l) c.args.cells.now.present c.args.kept.now) (sym c.loop-at.invariant.machines) c.requires.kept

pub loop-at-init : goal.loop-at-init
loop-at-init c = record {
  machines = refl;
  known = c.requires.known;
  begun = none_begun c.args.requirements.now (machines_of c.args.each.now.items) c.args.cells.now.present _ c.clear.ensures.items;
}

pub loop-at-preserved-then-has_course : goal.loop-at-preserved-then-has_course
loop-at-preserved-then-has_course c =
    let rs = c.args.requirements.now in let r = get_or rs c.loop-at.at none_there in
    let there = slice_get-get_or rs c.loop-at.at none_there c.loop-at-test.true in record {
      machines = c.loop-at.invariant.machines;
      known = c.loop-at.invariant.known;
      begun = was_begun rs (machines_of c.args.each.now.items) c.args.cells.now.present c.loop-at.courses.items c.loop-at.at
          r c.loop-at-test.true (sym (get_or_from_slice_get rs c.loop-at.at r r there)) c.loop-at.invariant.begun
          (subst (λ l. HasCourse l r.term) c.as_slice.ensures.value (c.has_course.ensures c.if-has_course.true));
    }

pub loop-at-preserved : goal.loop-at-preserved
loop-at-preserved c =
    let rs = c.args.requirements.now in let ms = machines_of c.args.each.now.items in let b = c.args.cells.now.present in
    let r = get_or rs c.loop-at.at none_there in
    let there = slice_get-get_or rs c.loop-at.at none_there c.loop-at-test.true in record {
      machines = c.course_of_term.ensures.machines ∙ c.loop-at.invariant.machines;
      known = c.course_of_term.ensures.known;
      begun = one_begun rs ms b c.loop-at.courses.items c.loop-at.at r c.loop-at-test.true (sym (get_or_from_slice_get rs c.loop-at.at r r there))
          c.loop-at.invariant.begun c.push.new.self.items c.in_ok-course.course
          (each_at (λ (q : Require). q.term < length ms) rs c.loop-at.at r c.requires.terms there)
          (subst (λ l. OfTerm l r.term (λ a. IsCourse rs r.term a b c.in_ok-course.course)) c.loop-at.invariant.machines c.in_ok-course.ensures.course)
          c.in_ok-push.ensures.items;
    }

pub returns-clause-courses : goal.returns-clause-courses
returns-clause-courses c =
    let over = c.loop-at-test.false in
    all_begun c.args.requirements.now (machines_of c.args.each.now.items) c.args.cells.now.present c.loop-at.courses.items c.loop-at.at
    c.loop-at.invariant.begun (omega (arith, over))
