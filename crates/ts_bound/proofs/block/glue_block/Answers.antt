use Rattle.std.proofs.Common.{◌≡◌, Some, refl, sym, ap, ◌∙◌, subst, w64, to_z, of_z, arith}
use Rattle.std.proofs.lemmas.Int.{to_z-of_z}
use Rattle.ts_base.specs.Limits.{IsCellValue}
use Rattle.ts_meet.specs.Meets.{hull_of_spans}
use Rattle.ts_bound.specs.Blocks.{glued_all}
use Rattle.ts_bound.proofs.FitLaws.{fits_at}
use Rattle.ts_bound.proofs.SpanRuns.{all_begun, all_more}
use Rattle.ts_bound.proofs.block.glue_block.Goals as goal

pub loop-q-init : goal.loop-q-init
loop-q-init c p h = all_begun (Some p) c.args.left.now c.args.right.now _ c.args.n c.args.joints.now.right_states c.none-span.result c.none-span.ensures

pub glue_state-span-requires-clause-left_fits : goal.glue_state-span-requires-clause-left_fits
glue_state-span-requires-clause-left_fits c =
    fits_at c.args.left.now c.loop-q.q _ _ (omega (arith, c.loop-q-test.true, c.loop-q.auto.q-end, c.requires.left_states)) refl c.requires.left_fit

pub glue_state-span-requires-clause-cell : goal.glue_state-span-requires-clause-cell
glue_state-span-requires-clause-cell c = subst IsCellValue (sym (to_z-of_z w64 c.args.cell c.ranges.cell)) c.requires.cell

pub loop-q-preserved : goal.loop-q-preserved
loop-q-preserved c p h =
    all_more (Some p) c.args.left.now c.args.right.now _ _ c.args.n c.args.joints.now.right_states c.loop-q.q _ _ c.loop-q.span c.glue_state-span.result
    refl (omega (arith, c.loop-q-test.true, c.loop-q.auto.q-end, c.requires.left_states)) refl (c.glue_state-span.ensures p h) (c.loop-q.invariant p h)

pub returns : goal.returns
returns c p h =
    let right = c.args.joints.now.right_states in
    let e : c.loop-q.q ≡ c.args.joints.now.left_states = omega (arith, c.loop-q-test.false, c.loop-q.auto.q-end) in
    c.loop-q.invariant p h
    ∙ ap (λ k. hull_of_spans (glued_all (Some p) c.args.left.now c.args.right.now (to_z w64 (of_z w64 c.args.cell)) c.args.n right k)) e
    ∙ ap (λ x. hull_of_spans (glued_all (Some p) c.args.left.now c.args.right.now x c.args.n right c.args.joints.now.left_states))
    (to_z-of_z w64 c.args.cell c.ranges.cell)
