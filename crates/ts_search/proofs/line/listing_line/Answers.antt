use Rattle.std.proofs.Common.{◌≡◌, sym, ◌∙◌, subst}
use Rattle.std.specs.Prelude.{MatchOption}
use Rattle.std.proofs.lemmas.Result.{IfOk-weaker}
use Rattle.ts_frontier.specs.Halve.{IsHalving, IsSingle}
use Rattle.ts_search.specs.LineOf.{TheFirst, branch_line, line_of}
use Rattle.ts_search.specs.Views.{search_of}
use Rattle.ts_search.proofs.CodeLines.{line_refuted, listed_alone, listed_branch, listed_no}
use Rattle.ts_search.proofs.line.listing_line.Goals as goal

pub returns-in-Some-clause-line : goal.returns-in-Some-clause-line
returns-in-Some-clause-line c =
    line_refuted (TheFirst (search_of c.args.problem.now)) c.args.cells.now.present c.in-Some.j c.last-p.result
    (sym c.in_ok-j.ensures.found ∙ c.in-Some.is) c.last-p.ensures

pub returns-in_default-first_halving-clause-line : goal.returns-in_default-first_halving-clause-line
returns-in_default-first_halving-clause-line c =
    let b = c.args.cells.now.present in
    listed_alone (search_of c.args.problem.now) b (sym c.in_ok-j.ensures.found ∙ c.in_default.is)
    (subst (λ o. MatchOption o (IsSingle b) (λ h. IsHalving h.cell h.at b)) c.in_default-first_halving.is c.first_halving.ensures)

pub returns-in-Some-2-clause-line : goal.returns-in-Some-2-clause-line
returns-in-Some-2-clause-line c =
    let b = c.args.cells.now.present in
    listed_no (search_of c.args.problem.now) b (sym c.in_ok-j.ensures.found ∙ c.in_default.is)
    c.in-Some-first_halving.halving.cell c.in-Some-first_halving.halving.at
    (subst (λ o. MatchOption o (IsSingle b) (λ h. IsHalving h.cell h.at b)) c.in-Some-first_halving.is c.first_halving.ensures)
    c.in_ok-line.field-0 c.in-Some-2.line
    c.in_ok-line.ensures.line c.in-Some-2.is

pub returns-clause-line : goal.returns-clause-line
returns-clause-line c =
    let b = c.args.cells.now.present in
    let s = search_of c.args.problem.now in
    let halving = c.in-Some-first_halving.halving in
    IfOk-weaker c.branch-alloc.result (λ l. l ≡ branch_line s b halving.cell halving.at) (λ l. l ≡ line_of (TheFirst s) b)
    (λ l h. listed_branch s b (sym c.in_ok-j.ensures.found ∙ c.in_default.is) halving.cell halving.at
    (subst (λ o. MatchOption o (IsSingle b) (λ h. IsHalving h.cell h.at b)) c.in-Some-first_halving.is c.first_halving.ensures) c.in_ok-line.field-0 l
    c.in_ok-line.ensures.line c.in_default-2.is h)
    c.branch-alloc.ensures.line
