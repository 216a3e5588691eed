use Rattle.std.proofs.Common.{◌≡◌, ◌<◌, ◌∙◌, arith, ap, length, subst, sym}
use Rattle.std.specs.List.{AllByRecursion}
use Rattle.std.proofs.lemmas.Result.{IfOk-weaker}
use Rattle.ts_filter.specs.Drops.{IsFirstDrop}
use Rattle.ts_filter.specs.KeptCells.{AreKept}
use Rattle.ts_filter.specs.MachineSpans.{spans_of}
use Rattle.ts_search.specs.Drops.{next_drop}
use Rattle.ts_search.specs.Views.{search_of}
use Rattle.ts_search.proofs.Posed.{each_looks, never_dropped, next_drop_told, tables_count, term_count}
use Rattle.ts_search.proofs.problem.Problem.next_drop.Goals as goal

-- the machines are as many as the terms, which a model has few of
pub next_drop-requires-clause-machines : goal.next_drop-requires-clause-machines
next_drop-requires-clause-machines c =
    let q = c.args.self.now in
    let many = tables_count q c.requires.asked.posed c.args.tables.now.machines c.requires.asked.tables in
    let entries = term_count q c.requires.asked.posed in
    let few = c.requires.asked.posed.terms in omega (arith, many, entries, few)

pub next_drop-requires-clause-requirements : goal.next_drop-requires-clause-requirements
next_drop-requires-clause-requirements c =
    let few = c.requires.asked.posed.requirements in let same = ap length c.deref.ensures.value in omega (arith, few, same)

pub next_drop-requires-clause-terms : goal.next_drop-requires-clause-terms
next_drop-requires-clause-terms c =
    subst (λ n. AllByRecursion (λ r. r.term < n) c.deref.result.now)
    (sym (tables_count c.args.self.now c.requires.asked.posed c.args.tables.now.machines c.requires.asked.tables))
    (subst (AllByRecursion (λ r. r.term < length (search_of c.args.self.now).model.terms)) (sym c.deref.ensures.value)
    c.requires.asked.posed.right.whole.requirements)

pub next_drop-requires-clause-looks : goal.next_drop-requires-clause-looks
next_drop-requires-clause-looks c =
    let q = c.args.self.now in
    each_looks q c.requires.asked.posed c.args.cells.now.present c.requires.asked.part c.args.tables.now.machines c.requires.asked.tables

pub next_drop-requires-clause-kept : goal.next_drop-requires-clause-kept
next_drop-requires-clause-kept c =
    let q = c.args.self.now in let b = c.args.cells.now.present in
    subst (λ rs. AreKept rs (spans_of c.args.tables.now.machines) b c.mark.new.self.kept) (sym c.deref.ensures.value)
    (subst (λ ms. AreKept q.model.now.requirements.items (spans_of ms) b c.mark.new.self.kept) (sym c.requires.asked.tables) c.mark.ensures.marks)

pub returns-clause-found : goal.returns-clause-found
returns-clause-found c =
    let q = c.args.self.now in let b = c.args.cells.now.present in
    IfOk-weaker c.next_drop.result
    (λ found. IsFirstDrop c.deref.result.now (spans_of c.args.tables.now.machines) b found)
    (λ found. found ≡ next_drop (search_of q).model (search_of q).spans b)
    (λ found h. next_drop_told q c.requires.asked.posed b c.requires.asked.part found
    (subst (λ rs. IsFirstDrop rs (search_of q).spans b found) c.deref.ensures.value
    (subst (λ ms. IsFirstDrop c.deref.result.now (spans_of ms) b found) c.requires.asked.tables h)))
    c.next_drop.ensures.found

-- without a requirement there is no drop
pub returns-then-requirements-eq0-clause-found : goal.returns-then-requirements-eq0-clause-found
returns-then-requirements-eq0-clause-found c =
    never_dropped c.args.self.now c.requires.asked.posed c.args.cells.now.present c.requires.asked.part
    (sym c.requirements.ensures.count ∙ c.if-requirements-eq0.true)

pub next_drop-requires-clause-spares : goal.next_drop-requires-clause-spares
next_drop-requires-clause-spares c = record {
  problem = c.args.self.now;
  posed = c.requires.asked.posed;
  part = c.requires.asked.part;
  shown = c.mark.ensures.shown;
  same = c.deref.ensures.value;
  spans = ap spans_of c.requires.asked.tables;
}
