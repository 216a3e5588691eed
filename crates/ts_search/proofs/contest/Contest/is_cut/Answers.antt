use Rattle.std.proofs.Common.{◌≡◌, ◌∙◌, sym}
use Rattle.std.proofs.lemmas.Result.{IfOk-weaker}
use Rattle.ts_search.specs.LineOf.{bar_of, is_cut_at, cut_by, last}
use Rattle.ts_search.specs.Views.{contest_of, find_of}
use Rattle.ts_search.proofs.Posed.{cut_by_bar, uncut}
use Rattle.ts_search.proofs.contest.Contest.is_cut.Goals as goal

pub returns-in-Some-clause-answered : goal.returns-in-Some-clause-answered
returns-in-Some-clause-answered c =
    let q = contest_of c.args.self.now in
    let b = c.args.cells.now.present in
    let bar = bar_of (find_of c.args.found.now) q.warm in
    IfOk-weaker c.is_cut_by.result (λ told. told ≡ is_cut_at q (last q.search) b c.in-Some.bar)
    (λ told. told ≡ cut_by q bar (last q.search) b)
    (λ told h. cut_by_bar q bar b c.in-Some.bar told (sym c.bar.ensures ∙ c.in-Some.is) h) c.is_cut_by.ensures.answered

pub returns-in-None-clause-answered : goal.returns-in-None-clause-answered
returns-in-None-clause-answered c =
    let q = contest_of c.args.self.now in
    uncut q (bar_of (find_of c.args.found.now) q.warm) c.args.cells.now.present
    (sym c.bar.ensures ∙ c.in-None.is)
