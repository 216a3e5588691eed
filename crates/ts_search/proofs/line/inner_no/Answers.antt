use Rattle.std.proofs.Common.{arith, ◌∙◌}
use Rattle.ts_search.specs.LineOf.{requirements}
use Rattle.ts_search.specs.Views.{search_of}
use Rattle.ts_search.proofs.CodeLines.{no_end, no_here, no_next}
use Rattle.ts_search.proofs.line.inner_no.Goals as goal

pub first_refuted-requires-clause-to : goal.first_refuted-requires-clause-to
first_refuted-requires-clause-to c =
    let below = c.loop-j-test.true in let count = c.requirements-j-end.ensures.count in omega (arith, below, count)

pub returns-in-Some-clause-line : goal.returns-in-Some-clause-line
returns-in-Some-clause-line c =
    let s = search_of c.args.problem.now in
    no_here s c.args.cells.now.present (requirements s) c.requirements-j-end.result c.loop-j.j c.in-Some.p c.in_ok-p.field-0 _ c.loop-j-test.true
    c.requirements-j-end.ensures.count c.in_ok-p.ensures.found c.in-Some.is c.loop-j.invariant.line

pub loop-j-preserved : goal.loop-j-preserved
loop-j-preserved c =
    let s = search_of c.args.problem.now in
    record {
      same = c.first_refuted.ensures.same ∙ c.loop-j.invariant.same;
      line = no_next s c.args.cells.now.present (requirements s) c.requirements-j-end.result c.loop-j.j c.in_ok-p.field-0 _ c.loop-j-test.true
          c.requirements-j-end.ensures.count c.in_ok-p.ensures.found c.in_default.is c.loop-j.invariant.line;
    }

pub returns-clause-line : goal.returns-clause-line
returns-clause-line c =
    let s = search_of c.args.problem.now in let end = c.loop-j-test.false in
    no_end s c.args.cells.now.present (requirements s) c.requirements-j-end.result c.loop-j.j _ (omega (arith, end)) c.requirements-j-end.ensures.count
    c.loop-j.invariant.line
