use Rattle.std.proofs.Common.{◌≡◌, sym, ◌∙◌, subst}
use Rattle.std.specs.Prelude.{MatchOption}
use Rattle.std.proofs.lemmas.Result.{IfOk-weaker}
use Rattle.ts_frontier.specs.Halve.{IsHalving, IsSingle}
use Rattle.ts_search.specs.LineOf.{TheBest, line_of, wide_line}
use Rattle.ts_search.specs.Views.{contest_of, find_of}
use Rattle.ts_search.proofs.CodeLines.{line_refuted, solved_alone, solved_cut, solved_wide}
use Rattle.ts_search.proofs.line.solve_line.Goals as goal

pub returns-in-Some-clause-line : goal.returns-in-Some-clause-line
returns-in-Some-clause-line c =
    line_refuted (TheBest (contest_of c.args.contest.now) (find_of c.args.found.now)) c.args.cells.now.present c.in-Some.j
    c.last-p.result (sym c.in_ok-j.ensures.found ∙ c.in-Some.is) c.last-p.ensures

-- one series
pub returns-in_default-first_halving-clause-line : goal.returns-in_default-first_halving-clause-line
returns-in_default-first_halving-clause-line c =
    let b = c.args.cells.now.present in
    solved_alone (contest_of c.args.contest.now) (find_of c.args.found.now) b (sym c.in_ok-j.ensures.found ∙ c.in_default.is)
    (subst (λ o. MatchOption o (IsSingle b) (λ h. IsHalving h.cell h.at b)) c.in_default-first_halving.is c.first_halving.ensures)
    c.last-p-in_default-first_halving.result
    c.last-p-in_default-first_halving.ensures

-- several series that are cut at the last cell
pub returns-then-branch-clause-line : goal.returns-then-branch-clause-line
returns-then-branch-clause-line c =
    let b = c.args.cells.now.present in
    solved_cut (contest_of c.args.contest.now) (find_of c.args.found.now) b (sym c.in_ok-j.ensures.found ∙ c.in_default.is) c.in-Some-first_halving.halving.cell
    c.in-Some-first_halving.halving.at
    (subst (λ o. MatchOption o (IsSingle b) (λ h. IsHalving h.cell h.at b)) c.in-Some-first_halving.is c.first_halving.ensures)
    c.in_ok-is_cut.field-0 c.in_ok-is_cut.ensures.answered c.if-branch.true c.last-p-then-branch.result c.last-p-then-branch.ensures

pub returns-clause-line : goal.returns-clause-line
returns-clause-line c =
    let b = c.args.cells.now.present in
    let s = contest_of c.args.contest.now in
    let found = find_of c.args.found.now in
    let halving = c.in-Some-first_halving.halving in
    IfOk-weaker c.inner_line.result (λ l. l ≡ wide_line (TheBest s found) b halving.cell halving.at)
    (λ l. l ≡ line_of (TheBest s found) b)
    (λ l h. solved_wide s found b (sym c.in_ok-j.ensures.found ∙ c.in_default.is) halving.cell halving.at
    (subst (λ o. MatchOption o (IsSingle b) (λ h. IsHalving h.cell h.at b)) c.in-Some-first_halving.is c.first_halving.ensures) c.in_ok-is_cut.field-0
    c.in_ok-is_cut.ensures.answered c.if-branch.false l h)
    c.inner_line.ensures.line
