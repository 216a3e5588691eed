use Rattle.std.proofs.Common.{rules, ◌∙◌, subst, sym}
use Rattle.std.specs.Prelude.{Contains}
use Rattle.std.proofs.lemmas.Int.{to_z-of_z}
use mir.Syntax.{w64}
use mir.Val.{SFits}
use Rattle.ts_filter.specs.Boxes.{only, values_at}
use Rattle.ts_filter.specs.RefutedWorseDrop.{IsRefuted}
use Rattle.ts_search.specs.Views.{search_of}
use Rattle.ts_search.proofs.CodeLeaps.{all_free, comes, comes_later, free_next, not_above}
use Rattle.ts_search.proofs.leap.takes_free_values.Goals.{else-v-halving-via-then-v-halving+in_ok-is_free+else-not-branch, else-v-halving-via-else-v-halving}
use Rattle.ts_search.proofs.leap.takes_free_values.Goals as goal

pub is_free-requires-clause-value : goal.is_free-requires-clause-value
is_free-requires-clause-value c =
    let v = c.in-Some.v in let fits : SFits w64 v = search rules in
    subst (Contains (values_at c.args.halving.cell c.args.cells.now.present)) (sym (to_z-of_z w64 v fits))
    (c.loop-v.invariant.inside v (comes c.loop-v.v-iterator c.next.new.self v c.in-Some.ensures.steps))

pub loop-v-preserved : goal.loop-v-preserved
loop-v-preserved c =
    let s = search_of c.args.problem.now in let b = c.args.cells.now.present in let k = c.args.halving.cell in let t = c.args.halving.at in
    let v = c.in-Some.v in let fits : SFits w64 v = search rules in let same = to_z-of_z w64 v fits in
    let left = c.loop-v.v-iterator in let rest = c.next.new.self in let steps = c.in-Some.ensures.steps in
    elim c.else-v-halving.branch [
      | else-v-halving-via-then-v-halving+in_ok-is_free+else-not-branch w ↦ record {
        same = w.tables-is ∙ w.is_free.ensures.same ∙ c.loop-v.invariant.same;
        inside = λ u h. c.loop-v.invariant.inside u (comes_later left rest v steps u h);
        free = free_next left rest v steps s b k t
            (λ above j r. w.in_ok-is_free.ensures.free w.if-not-branch.false j
            (subst (λ z. IsRefuted s.model.requirements s.spans j k (only k z b)) (sym same) r))
            c.loop-v.invariant.free;
      }
      | else-v-halving-via-else-v-halving w ↦ record {
        same = w.tables-is ∙ c.loop-v.invariant.same;
        inside = λ u h. c.loop-v.invariant.inside u (comes_later left rest v steps u h);
        free = free_next left rest v steps s b k t (not_above t v _ _ (to_z-of_z w64 t (search rules)) same w.if-v-halving.false)
            c.loop-v.invariant.free;
      }
    ]

pub returns-clause-free : goal.returns-clause-free
returns-clause-free c = λ told.
    all_free (search_of c.args.problem.now) c.args.cells.now.present c.args.halving.cell c.args.halving.at c.loop-v.v-iterator c.in-None.ensures.steps.0
    c.loop-v.invariant.free
