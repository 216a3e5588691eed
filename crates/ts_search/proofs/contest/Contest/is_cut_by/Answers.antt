use Rattle.std.proofs.Common.{◌≡◌, ◌↔◌, arith, length}
use Rattle.std.specs.Prelude.{IsTrue}
use Rattle.std.proofs.lemmas.Result.{IfOk-weaker}
use Rattle.ts_bound.specs.TermSpans.{term_span}
use Rattle.ts_filter.specs.Excluded.{Cuts}
use Rattle.ts_filter.specs.OfTerm.{OfTerm}
use Rattle.ts_search.specs.LineOf.{is_cut_at, last}
use Rattle.ts_search.specs.Views.{contest_of, search_of}
use Rattle.ts_search.proofs.Posed.{aimed, cut_told, looks_of, objective_long, part_size, some_cells, told_in}
use Rattle.ts_search.proofs.contest.Contest.is_cut_by.Goals as goal

pub cut_at_end-requires-clause-on : goal.cut_at_end-requires-clause-on
cut_at_end-requires-clause-on c = c.requires.asked.on (aimed c.args.self.now c.requires.objective)

pub cut_at_end-requires-clause-there : goal.cut_at_end-requires-clause-there
cut_at_end-requires-clause-there c =
    objective_long c.args.self.now c.requires.asked.posed c.requires.objective c.args.tables.now.machines c.requires.asked.tables

pub cut_at_end-requires-clause-some : goal.cut_at_end-requires-clause-some
cut_at_end-requires-clause-some c =
    let q = c.args.self.now in
    let size = part_size q.problem c.requires.asked.posed c.args.cells.now.present c.requires.asked.part in
    let some = some_cells q.problem c.requires.asked.posed in omega (arith, size, some)

pub cut_at_end-requires-clause-looks : goal.cut_at_end-requires-clause-looks
cut_at_end-requires-clause-looks c =
    let q = c.args.self.now in
    looks_of q.problem c.requires.asked.posed c.args.cells.now.present c.requires.asked.part c.args.tables.now.machines q.objective c.requires.asked.tables

pub returns-clause-answered : goal.returns-clause-answered
returns-clause-answered c =
    let q = c.args.self.now in let b = c.args.cells.now.present in
    IfOk-weaker c.cut_at_end.result (λ told. OfTerm c.args.tables.now.machines q.objective
    (λ a. IsTrue told ↔ Cuts q.goal c.args.bar (term_span a (length b) b)))
    (λ told. told ≡ is_cut_at (contest_of q) (last (search_of q.problem)) b c.args.bar)
    (λ told g. told_in q.problem c.args.tables.now.machines q.objective (λ a. IsTrue told ↔ Cuts q.goal c.args.bar (term_span a (length b) b))
    (told ≡ is_cut_at (contest_of q) (last (search_of q.problem)) b c.args.bar) c.requires.asked.tables
    (objective_long q c.requires.asked.posed c.requires.objective c.args.tables.now.machines c.requires.asked.tables) g
    (λ a there h. cut_told q c.requires.asked.posed c.requires.objective b c.requires.asked.part a there c.args.bar told h))
    c.cut_at_end.ensures.answered
