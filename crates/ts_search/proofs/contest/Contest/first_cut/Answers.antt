use Rattle.std.proofs.Common.{◌≡◌, ◌∙◌, sym}
use Rattle.std.proofs.lemmas.Result.{IfOk-weaker}
use Rattle.ts_search.specs.Drops.{least}
use Rattle.ts_search.specs.LineOf.{bar_of, is_cut_at, cut_by, inner}
use Rattle.ts_search.specs.Views.{contest_of, find_of}
use Rattle.ts_search.proofs.Posed.{first_cut_by_bar, none_cut}
use Rattle.ts_search.proofs.contest.Contest.first_cut.Goals as goal

pub returns-in-Some-clause-found : goal.returns-in-Some-clause-found
returns-in-Some-clause-found c =
    let q = contest_of c.args.self.now in
    let b = c.args.cells.now.present in
    let bar = bar_of (find_of c.args.found.now) q.warm in
    IfOk-weaker c.first_cut_by.result (λ cell. cell ≡ least (λ p. is_cut_at q p b c.in-Some.bar) (inner q.search) 1)
    (λ cell. cell ≡ least (λ p. cut_by q bar p b) (inner q.search) 1)
    (λ cell h. first_cut_by_bar q bar b c.in-Some.bar cell (sym c.bar.ensures ∙ c.in-Some.is) h)
    c.first_cut_by.ensures.found

pub returns-in-None-clause-found : goal.returns-in-None-clause-found
returns-in-None-clause-found c =
    let q = contest_of c.args.self.now in
    none_cut q (bar_of (find_of c.args.found.now) q.warm) c.args.cells.now.present
    (sym c.bar.ensures ∙ c.in-None.is)
