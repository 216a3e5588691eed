use Rattle.std.proofs.Common.{sym, ◌∙◌}
use Rattle.std.proofs.lemmas.Result.{IfOk-weaker}
use Rattle.std.proofs.Common.{◌≡◌}
use Rattle.ts_search.specs.LineOf.{TheBest, branch_line, wide_line}
use Rattle.ts_search.specs.Views.{contest_of, find_of}
use Rattle.ts_search.proofs.CodeLines.{inner_branch, inner_cut, wide_no}
use Rattle.ts_search.proofs.line.inner_line.Goals as goal

-- a requirement is refuted below the last cell
pub returns-in-Some-clause-line : goal.returns-in-Some-clause-line
returns-in-Some-clause-line c =
    wide_no (TheBest (contest_of c.args.contest.now) (find_of c.args.found.now)) c.args.cells.now.present c.in-Some.line
    c.args.halving.cell c.args.halving.at (sym c.in_ok-line.ensures.line ∙ c.in-Some.is)

-- the objective is cut below the last cell
pub returns-in-Some-2-clause-line : goal.returns-in-Some-2-clause-line
returns-in-Some-2-clause-line c =
    inner_cut (contest_of c.args.contest.now) (find_of c.args.found.now) c.args.cells.now.present c.args.halving.cell c.args.halving.at c.in_ok-p.field-0
    c.in-Some-2.p (sym c.in_ok-line.ensures.line ∙ c.in_default.is) c.in_ok-p.ensures.found c.in-Some-2.is

pub returns-clause-line : goal.returns-clause-line
returns-clause-line c =
    let s = contest_of c.args.contest.now in
    IfOk-weaker c.branch-alloc.result (λ l. l ≡ branch_line s.search c.args.cells.now.present c.args.halving.cell c.args.halving.at)
    (λ l. l ≡ wide_line (TheBest s (find_of c.args.found.now)) c.args.cells.now.present c.args.halving.cell c.args.halving.at)
    (λ l h. inner_branch s (find_of c.args.found.now) c.args.cells.now.present c.args.halving.cell c.args.halving.at c.in_ok-p.field-0 l
    (sym c.in_ok-line.ensures.line ∙ c.in_default.is) c.in_ok-p.ensures.found c.in_default-2.is h)
    c.branch-alloc.ensures.line
