use Rattle.std.proofs.Common.{◌≡◌}
use Rattle.std.proofs.lemmas.Result.{IfOk-weaker}
use Rattle.ts_filter.specs.Excluded.{Refutes}
use Rattle.ts_filter.specs.FirstCell.{IsFirstCell}
use Rattle.ts_filter.specs.OfTerm.{OfTerm}
use Rattle.ts_search.specs.Drops.{least}
use Rattle.ts_search.specs.LineOf.{inner, is_refuted_at}
use Rattle.ts_search.specs.Views.{search_of}
use Rattle.ts_search.proofs.Posed.{busy, first_refuted_told, looks_of, required_is, required_there, tables_long, told_in}
use Rattle.ts_search.proofs.Witnessed.{shown_nowhere}
use Rattle.ts_search.proofs.problem.Problem.first_refuted.Goals as goal

pub first_refuted-requires-clause-on : goal.first_refuted-requires-clause-on
first_refuted-requires-clause-on c = c.requires.asked.on (busy c.args.self.now c.args.j c.requires.from c.requires.to)

pub first_refuted-requires-clause-there : goal.first_refuted-requires-clause-there
first_refuted-requires-clause-there c =
    let q = c.args.self.now in let r = c.index-require.result.now in
    tables_long q c.requires.asked.posed c.args.tables.now.machines r.term c.requires.asked.tables
    (required_there q c.requires.asked.posed c.args.j r (required_is q c.requires.asked.posed c.args.j r c.requires.from c.requires.to c.index-require.ensures))

pub first_refuted-requires-clause-looks : goal.first_refuted-requires-clause-looks
first_refuted-requires-clause-looks c =
    let q = c.args.self.now in
    looks_of q c.requires.asked.posed c.args.cells.now.present c.requires.asked.part c.args.tables.now.machines c.index-require.result.now.term
    c.requires.asked.tables

-- the requirement's witness meets it
pub returns-then-shows-clause-found : goal.returns-then-shows-clause-found
returns-then-shows-clause-found c =
    shown_nowhere c.args.self.now c.requires.asked.posed c.args.witnesses.now c.args.cells.now.present c.requires.asked.part c.requires.shown c.args.j
    c.requires.from c.requires.to c.shows.result c.shows.ensures c.if-shows.true

pub returns-clause-found : goal.returns-clause-found
returns-clause-found c =
    let q = c.args.self.now in let b = c.args.cells.now.present in let r = c.index-require.result.now in
    let is = required_is q c.requires.asked.posed c.args.j r c.requires.from c.requires.to c.index-require.ensures in
    IfOk-weaker c.first_refuted.result (λ found. OfTerm c.args.tables.now.machines r.term (λ a. IsFirstCell a (Refutes r.op r.bound) b found))
    (λ found. found ≡ least (λ p. is_refuted_at (search_of q) c.args.j p b) (inner (search_of q)) 1)
    (λ found g. told_in q c.args.tables.now.machines r.term (λ a. IsFirstCell a (Refutes r.op r.bound) b found)
    (found ≡ least (λ p. is_refuted_at (search_of q) c.args.j p b) (inner (search_of q)) 1) c.requires.asked.tables
    (tables_long q c.requires.asked.posed c.args.tables.now.machines r.term c.requires.asked.tables (required_there q c.requires.asked.posed c.args.j r is)) g
    (λ a there h. first_refuted_told q c.requires.asked.posed b c.requires.asked.part c.args.j r a c.requires.from is there found h))
    c.first_refuted.ensures.found
