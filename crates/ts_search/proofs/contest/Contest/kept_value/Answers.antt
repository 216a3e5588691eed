use Rattle.std.proofs.Common.{◌≡◌}
use Rattle.std.proofs.lemmas.Result.{IfOk-weaker}
use Rattle.ts_filter.specs.KeptValue.{IsKept}
use Rattle.ts_filter.specs.OfTerm.{OfTerm}
use Rattle.ts_search.specs.Dive.{kept_value}
use Rattle.ts_search.specs.Views.{search_of}
use Rattle.ts_search.proofs.Posed.{aimed, kept_told, looks_of, objective_long, told_in}
use Rattle.ts_search.proofs.contest.Contest.kept_value.Goals as goal

pub kept_value-requires-clause-on : goal.kept_value-requires-clause-on
kept_value-requires-clause-on c = c.requires.asked.on (aimed c.args.self.now c.requires.objective)

pub kept_value-requires-clause-there : goal.kept_value-requires-clause-there
kept_value-requires-clause-there c =
    objective_long c.args.self.now c.requires.asked.posed c.requires.objective c.args.tables.now.machines c.requires.asked.tables

pub kept_value-requires-clause-looks : goal.kept_value-requires-clause-looks
kept_value-requires-clause-looks c =
    let q = c.args.self.now in
    looks_of q.problem c.requires.asked.posed c.args.cells.now.present c.requires.asked.part c.args.tables.now.machines q.objective c.requires.asked.tables

pub returns-clause-kept : goal.returns-clause-kept
returns-clause-kept c =
    let q = c.args.self.now in let b = c.args.cells.now.present in let s = search_of q.problem in
    IfOk-weaker c.kept_value.result (λ v. OfTerm c.args.tables.now.machines q.objective (λ a. IsKept a q.goal c.args.k b v))
    (λ v. v ≡ kept_value s.model s.spans q.goal c.args.k b)
    (λ v g. told_in q.problem c.args.tables.now.machines q.objective (λ a. IsKept a q.goal c.args.k b v)
    (v ≡ kept_value s.model s.spans q.goal c.args.k b) c.requires.asked.tables
    (objective_long q c.requires.asked.posed c.requires.objective c.args.tables.now.machines c.requires.asked.tables) g
    (λ a there h. kept_told q c.requires.asked.posed c.requires.objective b c.requires.asked.part a there c.args.k v c.requires.cell h))
    c.kept_value.ensures.kept
