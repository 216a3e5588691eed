use Rattle.std.proofs.lemmas.Result.{IfOk-weaker}
use Rattle.ts_search.specs.LineOf.{last, is_refuted_at}
use Rattle.ts_search.specs.Views.{search_of}
use Rattle.ts_search.proofs.Posed.{busy, looks_of, part_size, refuted_told, required_is, required_there, some_cells, tables_long, told_in}
use Rattle.std.proofs.Common.{arith, ◌↔◌, ◌≡◌, sym}
use Rattle.std.specs.Prelude.{IsTrue}
use Rattle.ts_bound.specs.TermSpans.{term_span}
use Rattle.ts_filter.specs.Excluded.{Refutes}
use Rattle.ts_filter.specs.OfTerm.{OfTerm}
use Rattle.ts_search.proofs.Witnessed.{shown_alive}
use Rattle.ts_search.proofs.problem.Problem.is_refuted.Goals as goal

pub refuted-requires-clause-on : goal.refuted-requires-clause-on
refuted-requires-clause-on c = c.requires.asked.on (busy c.args.self.now c.args.j c.requires.from c.requires.to)

pub refuted-requires-clause-there : goal.refuted-requires-clause-there
refuted-requires-clause-there c =
    let q = c.args.self.now in let r = c.index-require.result.now in
    tables_long q c.requires.asked.posed c.args.tables.now.machines r.term c.requires.asked.tables
    (required_there q c.requires.asked.posed c.args.j r (required_is q c.requires.asked.posed c.args.j r c.requires.from c.requires.to c.index-require.ensures))

pub refuted-requires-clause-cell : goal.refuted-requires-clause-cell
refuted-requires-clause-cell c =
    let size = part_size c.args.self.now c.requires.asked.posed c.args.cells.now.present c.requires.asked.part in
    let some = some_cells c.args.self.now c.requires.asked.posed in
    let end = c.cells.ensures.count in (omega (arith, size, some, end), omega (arith, end))

pub refuted-requires-clause-usable : goal.refuted-requires-clause-usable
refuted-requires-clause-usable c = λ a is plain. c.cells.ensures.count

pub refuted-requires-clause-looks : goal.refuted-requires-clause-looks
refuted-requires-clause-looks c =
    let q = c.args.self.now in
    looks_of q c.requires.asked.posed c.args.cells.now.present c.requires.asked.part c.args.tables.now.machines c.index-require.result.now.term
    c.requires.asked.tables

-- the requirement's witness meets it
pub returns-then-shows-clause-answered : goal.returns-then-shows-clause-answered
returns-then-shows-clause-answered c =
    let q = c.args.self.now in
    sym (shown_alive q c.requires.asked.posed c.args.witnesses.now c.args.cells.now.present c.requires.asked.part c.requires.shown c.args.j
    c.requires.from c.requires.to c.shows.result c.shows.ensures c.if-shows.true (last (search_of q)))

pub returns-clause-answered : goal.returns-clause-answered
returns-clause-answered c =
    let q = c.args.self.now in let b = c.args.cells.now.present in let r = c.index-require.result.now in
    let is = required_is q c.requires.asked.posed c.args.j r c.requires.from c.requires.to c.index-require.ensures in
    IfOk-weaker c.refuted.result (λ told. OfTerm c.args.tables.now.machines r.term (λ a. IsTrue told ↔ Refutes r.op r.bound (term_span a c.cells.result b)))
    (λ told. told ≡ is_refuted_at (search_of q) c.args.j (last (search_of q)) b)
    (λ told g. told_in q c.args.tables.now.machines r.term (λ a. IsTrue told ↔ Refutes r.op r.bound (term_span a c.cells.result b))
    (told ≡ is_refuted_at (search_of q) c.args.j (last (search_of q)) b) c.requires.asked.tables
    (tables_long q c.requires.asked.posed c.args.tables.now.machines r.term c.requires.asked.tables (required_there q c.requires.asked.posed c.args.j r is)) g
    (λ a there h. refuted_told q c.requires.asked.posed b c.requires.asked.part c.args.j r a c.requires.from is there c.cells.result told
    c.cells.ensures.count h))
    c.refuted.ensures.answered
