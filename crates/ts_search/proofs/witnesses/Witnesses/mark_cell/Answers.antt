use Rattle.std.proofs.Common.{rules, ◌≡◌, ◌⊎◌, ◌-◌, length, vec_len, refl, sym, subst, arith, w64, to_z, of_z}
use Rattle.std.proofs.lemmas.Int.{to_z-of_z}
use Rattle.ts_filter.specs.KeptCells.{AreKept, IsSpared}
use Rattle.ts_filter.proofs.BoxParts.{inside_length}
use Rattle.ts_search.specs.Views.{search_of}
use Rattle.ts_search.specs.Shown.{AreEnds}
use Rattle.ts_search.proofs.Marks.{mark_spared, none_over}
use Rattle.ts_search.proofs.Witnessed.{found}
use Rattle.ts_search.proofs.witnesses.Witnesses.mark_cell.Goals as goal

pub index-values-requires : goal.index-values-requires
index-values-requires c =
    let count : vec_len c.args.self.now.ends ≡ length c.args.self.now.ends.items = search rules in
    let size = inside_length c.args.cells.now.present (search_of c.args.problem.now).model.cells c.requires.part.inside in
    let long = c.requires.marked.shown.held.ends in
    let from = c.requires.cell.0 in let to = c.requires.cell.1 in omega (arith, count, size, long, from, to)

pub spares_up_to-limit-requires-clause-ends : goal.spares_up_to-limit-requires-clause-ends
spares_up_to-limit-requires-clause-ends c =
    let count : vec_len c.args.self.now.ends ≡ length c.args.self.now.ends.items = search rules in
    let size = inside_length c.args.cells.now.present (search_of c.args.problem.now).model.cells c.requires.part.inside in
    let long = c.requires.marked.shown.held.ends in
    let from = c.requires.cell.0 in let to = c.requires.cell.1 in
    c.requires.marked.ends (c.args.at.cell - 1) c.index-values.result.now
    (found c.args.self.now.ends.items (c.args.at.cell - 1) c.index-values.result.now c.index-values.ensures (omega (arith, size, long, from, to)))

pub keep_cell-requires-clause-to : goal.keep_cell-requires-clause-to
keep_cell-requires-clause-to c =
    let size = inside_length c.args.cells.now.present (search_of c.args.problem.now).model.cells c.requires.part.inside in
    let to = c.requires.cell.1 in
    λ t e. let count = c.spares_up_to-limit.ensures.shown.held.sized.cells_count c.args.at.term t e in omega (arith, size, to, count)

pub returns-then-limit-values-clause-marked : goal.returns-then-limit-values-clause-marked
returns-then-limit-values-clause-marked c =
    let q = c.args.problem.now in let b = c.args.cells.now.present in
    record {
      shown = c.spares_up_to-limit.ensures.shown;
      marks = subst (AreKept q.model.now.requirements.items (search_of q).spans b) (sym c.spares_up_to-limit.ensures.same) c.requires.marked.marks;
      ends = subst (λ z. AreEnds b z.items) (sym c.spares_up_to-limit.ensures.same_ends) c.requires.marked.ends;
    }

pub returns-clause-marked : goal.returns-clause-marked
returns-clause-marked c =
    let q = c.args.problem.now in let b = c.args.cells.now.present in
    let limit = c.spares_up_to-limit.result in let more = c.or_above_all-limit.result in let high = c.index-values.result.now.high in
    let size = inside_length b (search_of q).model.cells c.requires.part.inside in
    let long = c.requires.marked.shown.held.ends in
    let from = c.requires.cell.0 in let to = c.requires.cell.1 in
    let ends = c.requires.marked.ends (c.args.at.cell - 1) c.index-values.result.now
    (found c.args.self.now.ends.items (c.args.at.cell - 1) c.index-values.result.now c.index-values.ensures (omega (arith, size, long, from, to))) in
    let either : (more ≡ limit) ⊎ (limit ≡ high) =
    subst (λ z. (more ≡ z) ⊎ (z ≡ high)) (to_z-of_z w64 limit (search rules))
    (subst (λ z. (more ≡ to_z w64 (of_z w64 limit)) ⊎ (to_z w64 (of_z w64 limit) ≡ z)) (to_z-of_z w64 high (search rules)) c.or_above_all-limit.ensures) in
    mark_spared q c.requires.posed c.spares_up_to-limit.new.self _ b refl c.args.at.term c.args.at.cell (to_z w64 (of_z w64 more)) c.requires.cell.0 refl
    c.keep_cell.ensures
    (subst (IsSpared q.model.now.requirements.items (search_of q).spans b c.args.at.term c.args.at.cell) (sym (to_z-of_z w64 more (search rules)))
    (none_over q b c.args.at.term c.args.at.cell c.index-values.result.now limit more ends either c.spares_up_to-limit.ensures.spared))
    (record {
      shown = c.spares_up_to-limit.ensures.shown;
      marks = subst (AreKept q.model.now.requirements.items (search_of q).spans b) (sym c.spares_up_to-limit.ensures.same) c.requires.marked.marks;
      ends = subst (λ z. AreEnds b z.items) (sym c.spares_up_to-limit.ensures.same_ends) c.requires.marked.ends;
    })
