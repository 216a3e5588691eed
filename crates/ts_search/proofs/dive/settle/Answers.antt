use Rattle.std.proofs.Common.{ap, rules, sym, subst, ◌∙◌, ◌≡◌, ◌<◌, Some}
use Rattle.std.proofs.lemmas.Int.{to_z-of_z}
use mir.Syntax.{w64}
use Rattle.ts_domain.specs.Kept.{values_without}
use Rattle.ts_model.specs.ModelParts.{total_of}
use Rattle.ts_filter.specs.Boxes.{IsPart, values_at, without}
use Rattle.ts_filter.specs.declared.drops.Removal.{Removal}
use Rattle.ts_search.specs.Drops.{after_drops, next_drop}
use Rattle.ts_search.specs.Views.{search_of}
use Rattle.ts_search.proofs.DiveSteps.{one_more, refuted_some, removal_cell, removal_less, removal_part, removal_stays}
use Rattle.ts_search.proofs.dive.settle.Goals as goal

-- a drop leaves a part of the model's box
pub bring_tables-requires-in-loop-alloc : goal.bring_tables-requires-in-loop-alloc
bring_tables-requires-in-loop-alloc c =
    let s = search_of c.args.problem.now in
    let b = c.loop-alloc.cells.present in
    let r : Removal = c.in-Some.removal in
    let next : next_drop s.model s.spans b ≡ Some r = sym c.in_ok-removal.ensures.found ∙ c.in-Some.is in
    let after : c.remove.new.self.present ≡ without r.cell r.value b =
    ap (λ z. z.present) c.in_ok-remove-in-Some.ensures.ok ∙ ap (λ v. without r.cell v b) (to_z-of_z w64 r.value (search rules)) in
    record {
      asked = record {
        posed = c.loop-alloc.invariant.asked.posed;
        part = subst (λ z. IsPart z s.model.cells) (sym after) (removal_part s.model s.spans s.model.cells b r c.loop-alloc.invariant.asked.part next);
        tables = ap (λ z. z.machines) (c.next_drop.ensures.same ∙ c.refuted_requirement.ensures.same) ∙ c.loop-alloc.invariant.asked.tables;
      };
    }

-- the drop as the definitions have it: `next_drop` of the problem gave this removal
pub remove-requires-clause-cell : goal.remove-requires-clause-cell
remove-requires-clause-cell c =
    let s = search_of c.args.problem.now in
    removal_cell s.model s.spans c.loop-alloc.cells.present
    c.in-Some.removal
    (sym c.in_ok-removal.ensures.found ∙ c.in-Some.is)

pub remove-requires-clause-stays : goal.remove-requires-clause-stays
remove-requires-clause-stays c =
    let s = search_of c.args.problem.now in
    let r : Removal = c.in-Some.removal in
    λ none. removal_stays s.model s.spans c.loop-alloc.cells.present r c.loop-alloc.invariant.asked.part.box
    (sym c.in_ok-removal.ensures.found ∙ c.in-Some.is)
    (ap (λ v. values_without v (values_at r.cell c.loop-alloc.cells.present)) (sym (to_z-of_z w64 r.value (search rules))) ∙ none)

pub loop-alloc-preserved : goal.loop-alloc-preserved
loop-alloc-preserved c =
    let s = search_of c.args.problem.now in
    let b = c.loop-alloc.cells.present in
    let r : Removal = c.in-Some.removal in
    let next : next_drop s.model s.spans b ≡ Some r = sym c.in_ok-removal.ensures.found ∙ c.in-Some.is in
    let after : c.remove.new.self.present ≡ without r.cell r.value b =
    ap (λ z. z.present) c.in_ok-remove-in-Some.ensures.ok ∙ ap (λ v. without r.cell v b) (to_z-of_z w64 r.value (search rules)) in
    record {
      shown = c.bring-in-loop-alloc.ensures;
      machines = c.bring_tables-in-loop-alloc.ensures.machines ∙ ap (λ z. z.machines) (c.next_drop.ensures.same ∙ c.refuted_requirement.ensures.same)
          ∙ c.loop-alloc.invariant.machines;
      asked = c.in_ok-bring_tables-2.ensures.asked;
      same = ap (after_drops s.model s.spans) after ∙ one_more s.model s.spans b r c.loop-alloc.invariant.asked.part.box next
          ∙ c.loop-alloc.invariant.same;
    }

pub loop-alloc-smaller : goal.loop-alloc-smaller
loop-alloc-smaller c =
    let s = search_of c.args.problem.now in
    let b = c.loop-alloc.cells.present in
    let r : Removal = c.in-Some.removal in
    let after : c.remove.new.self.present ≡ without r.cell r.value b =
    ap (λ z. z.present) c.in_ok-remove-in-Some.ensures.ok ∙ ap (λ v. without r.cell v b) (to_z-of_z w64 r.value (search rules)) in
    subst (λ z. total_of z < total_of b) (sym after)
    (removal_less s.model s.spans b r c.loop-alloc.invariant.asked.part.box (sym c.in_ok-removal.ensures.found ∙ c.in-Some.is))

-- no drop is possible any more
pub returns-in-None-clause-settled : goal.returns-in-None-clause-settled
returns-in-None-clause-settled c = record {
  part = c.loop-alloc.invariant.asked.part;
  same = c.loop-alloc.invariant.same;
  settled = sym c.in_ok-removal.ensures.found ∙ c.in-None.is;
}

-- a requirement is refuted at the last cell
pub returns-clause-settled : goal.returns-clause-settled
returns-clause-settled c = record {
  part = c.loop-alloc.invariant.asked.part;
  same = c.loop-alloc.invariant.same;
  settled = refuted_some (search_of c.args.problem.now) c.loop-alloc.cells.present c.in_ok-refuted_requirement.field-0
      c.in_ok-refuted_requirement.ensures.found c.is_none.result c.is_none.ensures c.if-is_none.false;
}
