use Rattle.std.proofs.Common.{arith, ◌∙◌}
use Rattle.ts_search.specs.LineOf.{last, is_refuted_at, requirements}
use Rattle.ts_search.specs.Views.{search_of}
use Rattle.ts_search.proofs.CodeLines.{least_end, least_here, least_next}
use Rattle.ts_search.proofs.line.refuted_requirement.Goals as goal

pub is_refuted-requires-clause-to : goal.is_refuted-requires-clause-to
is_refuted-requires-clause-to c =
    let below = c.loop-j-test.true in let count = c.requirements-j-end.ensures.count in omega (arith, below, count)

pub returns-then-branch-clause-found : goal.returns-then-branch-clause-found
returns-then-branch-clause-found c =
    let s = search_of c.args.problem.now in
    least_here (λ j. is_refuted_at s j (last s) c.args.cells.now.present) (requirements s) c.requirements-j-end.result c.loop-j.j
    c.in_ok-is_refuted.field-0 _ c.loop-j-test.true c.requirements-j-end.ensures.count c.in_ok-is_refuted.ensures.answered c.if-branch.true
    c.loop-j.invariant.found

pub loop-j-preserved : goal.loop-j-preserved
loop-j-preserved c =
    let s = search_of c.args.problem.now in
    record {
      same = c.is_refuted.ensures.same ∙ c.loop-j.invariant.same;
      found = least_next (λ j. is_refuted_at s j (last s) c.args.cells.now.present) (requirements s) c.requirements-j-end.result c.loop-j.j
          c.in_ok-is_refuted.field-0 _ c.loop-j-test.true c.requirements-j-end.ensures.count c.in_ok-is_refuted.ensures.answered c.if-branch.false
          c.loop-j.invariant.found;
    }

pub returns-clause-found : goal.returns-clause-found
returns-clause-found c =
    let s = search_of c.args.problem.now in let end = c.loop-j-test.false in
    least_end (λ j. is_refuted_at s j (last s) c.args.cells.now.present) (requirements s) c.requirements-j-end.result c.loop-j.j _ (omega (arith, end))
    c.requirements-j-end.ensures.count c.loop-j.invariant.found
