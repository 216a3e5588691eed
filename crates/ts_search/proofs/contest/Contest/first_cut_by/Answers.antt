use Rattle.std.proofs.Common.{◌≡◌}
use Rattle.std.proofs.lemmas.Result.{IfOk-weaker}
use Rattle.ts_filter.specs.Excluded.{Cuts}
use Rattle.ts_filter.specs.FirstCell.{IsFirstCell}
use Rattle.ts_filter.specs.OfTerm.{OfTerm}
use Rattle.ts_search.specs.Drops.{least}
use Rattle.ts_search.specs.LineOf.{is_cut_at, inner}
use Rattle.ts_search.specs.Views.{contest_of, search_of}
use Rattle.ts_search.proofs.Posed.{aimed, first_cut_told, looks_of, objective_long, told_in}
use Rattle.ts_search.proofs.contest.Contest.first_cut_by.Goals as goal

pub first_cut-requires-clause-on : goal.first_cut-requires-clause-on
first_cut-requires-clause-on c = c.requires.asked.on (aimed c.args.self.now c.requires.objective)

pub first_cut-requires-clause-there : goal.first_cut-requires-clause-there
first_cut-requires-clause-there c =
    objective_long c.args.self.now c.requires.asked.posed c.requires.objective c.args.tables.now.machines c.requires.asked.tables

pub first_cut-requires-clause-looks : goal.first_cut-requires-clause-looks
first_cut-requires-clause-looks c =
    let q = c.args.self.now in
    looks_of q.problem c.requires.asked.posed c.args.cells.now.present c.requires.asked.part c.args.tables.now.machines q.objective c.requires.asked.tables

pub returns-clause-found : goal.returns-clause-found
returns-clause-found c =
    let q = c.args.self.now in let b = c.args.cells.now.present in
    IfOk-weaker c.first_cut.result (λ cell. OfTerm c.args.tables.now.machines q.objective (λ a. IsFirstCell a (Cuts q.goal c.args.bar) b cell))
    (λ cell. cell ≡ least (λ p. is_cut_at (contest_of q) p b c.args.bar) (inner (search_of q.problem)) 1)
    (λ cell g. told_in q.problem c.args.tables.now.machines q.objective (λ a. IsFirstCell a (Cuts q.goal c.args.bar) b cell)
    (cell ≡ least (λ p. is_cut_at (contest_of q) p b c.args.bar) (inner (search_of q.problem)) 1) c.requires.asked.tables
    (objective_long q c.requires.asked.posed c.requires.objective c.args.tables.now.machines c.requires.asked.tables) g
    (λ a there h. first_cut_told q c.requires.asked.posed c.requires.objective b c.requires.asked.part a there c.args.bar cell h))
    c.first_cut.ensures.found
