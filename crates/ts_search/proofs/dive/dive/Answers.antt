use Rattle.std.proofs.Common.{◌≡◌, ◌+◌, ◌-◌, suc, arith, ap, sym, subst, ◌∙◌, length, refl, true, false}
use Rattle.ts_filter.proofs.BoxParts.{part_self}
use Rattle.ts_filter.proofs.SoundLaws.{values_are_sound}
use Rattle.ts_filter.specs.Boxes.{IsPart}
use Rattle.std.proofs.lemmas.Result.{IfOk-weaker}
use Rattle.ts_search.specs.Dive.{dive, dive_end}
use Rattle.ts_frontier.specs.Forms.{form}
use Rattle.ts_search.specs.Views.{IsSettled, find_of, search_of}
use Rattle.ts_search.proofs.DiveSteps.{cell_there, end_is, ends_early, ends_first, ends_next, ends_now, kept_inside, settled_all, settled_early, settled_part, within_cells}
use Rattle.ts_search.proofs.dive.dive.Goals as goal

pub new-requires : goal.new-requires
new-requires c = let few = c.requires.posed.right.whole.few in let same = ap length c.deref.ensures.value in omega (arith, few, same)

-- the first box is the model's
pub settle-requires-clause-asked : goal.settle-requires-clause-asked
settle-requires-clause-asked c =
    let s = search_of c.args.contest.now.problem in
    record {
      posed = c.requires.posed;
      part = subst (λ b. IsPart b s.model.cells) (sym (ap (λ z. z.present) c.in_ok-cells.ensures ∙ c.deref.ensures.value))
          (part_self s.model.cells c.requires.posed.right.box);
      tables = c.requires.tables;
    }

-- a requirement is refuted before any cell has kept its value
pub returns-then-not-branch-clause-found : goal.returns-then-not-branch-clause-found
returns-then-not-branch-clause-found c =
    let s = search_of c.args.contest.now.problem in
    settled_early s c.args.contest.now.goal (values_are_sound s.model s.spans c.requires.posed.right.holds) s.model.cells c.settle.new.cells.present
    (length s.model.cells) 1 (omega arith) (omega arith)
    (subst (λ b. IsSettled s b c.settle.new.cells.present false) (ap (λ z. z.present) c.in_ok-cells.ensures ∙ c.deref.ensures.value)
    (subst (IsSettled s _ c.settle.new.cells.present) c.if-not-branch.true c.in_ok-settle.ensures.settled))

pub loop-k-init : goal.loop-k-init
loop-k-init c =
    let s = search_of c.args.contest.now.problem in
    let settled = subst (λ b. IsSettled s b c.settle.new.cells.present true) (ap (λ z. z.present) c.in_ok-cells.ensures ∙ c.deref.ensures.value)
    (subst (IsSettled s _ c.settle.new.cells.present) c.if-not-branch.false c.in_ok-settle.ensures.settled) in
    record {
      machines = c.settle.ensures.machines;
      held = c.in_ok-settle.ensures.held;
      asked = c.in_ok-settle.ensures.asked;
      ends = ends_first s.model s.spans c.args.contest.now.goal c.settle.new.cells.present (length s.model.cells)
          (settled_all s s.model.cells c.settle.new.cells.present settled) refl;
    }

-- a model has few cells
pub overflow_add-k-end : goal.overflow_add-k-end
overflow_add-k-end c =
    let s = search_of c.args.contest.now.problem in
    let end = end_is s c.settle.new.cells.present c.cells-k-end.result (settled_part s _ c.settle.new.cells.present _ c.in_ok-settle.ensures.settled)
    c.cells-k-end.ensures.count in
    let few = c.requires.posed.right.whole.few in omega (arith, end, few)

-- the loop over the cells ends at the number of cells of the box before it, which is that of the model
pub keep_one-requires-clause-cell : goal.keep_one-requires-clause-cell
keep_one-requires-clause-cell c =
    let s = search_of c.args.contest.now.problem in
    let end = end_is s c.settle.new.cells.present c.cells-k-end.result (settled_part s _ c.settle.new.cells.present _ c.in_ok-settle.ensures.settled)
    c.cells-k-end.ensures.count in
    cell_there s c.loop-k.cells.present c.loop-k.k c.cells-k-end.result c.loop-k.invariant.asked.part (omega arith) c.loop-k-test.true end

pub settle-requires-in-loop-k-clause-asked : goal.settle-requires-in-loop-k-clause-asked
settle-requires-in-loop-k-clause-asked c =
    let s = search_of c.args.contest.now.problem in
    let end = end_is s c.settle.new.cells.present c.cells-k-end.result (settled_part s _ c.settle.new.cells.present _ c.in_ok-settle.ensures.settled)
    c.cells-k-end.ensures.count in
    record {
      posed = c.requires.posed;
      part = kept_inside s c.args.contest.now.goal c.loop-k.k c.loop-k.cells.present c.keep_one.new.cells.present c.loop-k.invariant.asked.part
          (cell_there s c.loop-k.cells.present c.loop-k.k c.cells-k-end.result c.loop-k.invariant.asked.part (omega arith) c.loop-k-test.true end)
          c.in_ok-keep_one.ensures.kept;
      tables = ap (λ z. z.machines) c.keep_one.ensures.same ∙ c.loop-k.invariant.asked.tables;
    }

-- a requirement is refuted once a cell has kept its value
pub returns-then-not-branch-2-clause-found : goal.returns-then-not-branch-2-clause-found
returns-then-not-branch-2-clause-found c =
    let s = search_of c.args.contest.now.problem in
    let n = length s.model.cells in
    let k = c.loop-k.k in
    let end = end_is s c.settle.new.cells.present c.cells-k-end.result (settled_part s _ c.settle.new.cells.present _ c.in_ok-settle.ensures.settled)
    c.cells-k-end.ensures.count in
    let below = within_cells k c.cells-k-end.result n c.loop-k-test.true end in
    ends_early s.model s.spans c.args.contest.now.goal c.loop-k.cells.present c.keep_one.new.cells.present n k _ below c.in_ok-keep_one.ensures.kept
    c.loop-k.invariant.ends
    (settled_early s c.args.contest.now.goal (values_are_sound s.model s.spans c.requires.posed.right.holds) c.keep_one.new.cells.present
    c.settle-in-loop-k.new.cells.present (n + 1 - (k + 1)) (suc k) (omega arith) (omega (arith, below))
    (subst (IsSettled s _ _) c.if-not-branch-2.true c.in_ok-settle-2.ensures.settled))

-- the series that is left
pub returns-clause-found : goal.returns-clause-found
returns-clause-found c =
    let s = search_of c.args.contest.now.problem in
    let end = end_is s c.settle.new.cells.present c.cells-k-end.result (settled_part s _ c.settle.new.cells.present _ c.in_ok-settle.ensures.settled)
    c.cells-k-end.ensures.count in
    let above = c.loop-k-test.false in
    IfOk-weaker c.series_left.result (λ f. find_of f ≡ dive_end s.model (form c.loop-k.cells.present))
    (λ f. find_of f ≡ dive s.model s.spans c.args.contest.now.goal)
    (λ f is. ends_now s.model s.spans c.args.contest.now.goal c.loop-k.cells.present (length s.model.cells) c.loop-k.k _ (find_of f) (omega (arith, end, above))
    c.loop-k.invariant.ends is)
    c.series_left.ensures

pub loop-k-preserved : goal.loop-k-preserved
loop-k-preserved c =
    let s = search_of c.args.contest.now.problem in
    let n = length s.model.cells in
    let k = c.loop-k.k in
    let end = end_is s c.settle.new.cells.present c.cells-k-end.result (settled_part s _ c.settle.new.cells.present _ c.in_ok-settle.ensures.settled)
    c.cells-k-end.ensures.count in
    let below = within_cells k c.cells-k-end.result n c.loop-k-test.true end in
    let settled = subst (IsSettled s _ _) c.if-not-branch-2.false c.in_ok-settle-2.ensures.settled in
    record {
      held = c.in_ok-settle-2.ensures.held;
      machines = c.settle-in-loop-k.ensures.machines ∙ ap (λ z. z.machines) c.keep_one.ensures.same ∙ c.loop-k.invariant.machines;
      asked = c.in_ok-settle-2.ensures.asked;
      ends = ends_next s.model s.spans c.args.contest.now.goal c.loop-k.cells.present c.keep_one.new.cells.present c.settle-in-loop-k.new.cells.present
          n k _ below c.in_ok-keep_one.ensures.kept
          (settled_all s c.keep_one.new.cells.present c.settle-in-loop-k.new.cells.present settled) c.loop-k.invariant.ends;
    }
