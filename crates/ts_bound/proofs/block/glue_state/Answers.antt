use Rattle.std.proofs.Common.{◌≡◌, Some, refl, sym, ap, ◌∙◌, subst, w64, to_z, of_z, arith}
use Rattle.std.specs.Prelude.{fold}
use Rattle.std.proofs.lemmas.Int.{to_z-of_z}
use Rattle.ts_automaton.specs.Registers.{spans_of}
use Rattle.ts_base.specs.Limits.{IsCellValue}
use Rattle.ts_base.specs.Spans.{span_hull}
use Rattle.ts_bound.specs.Blocks.{glued_with}
use Rattle.ts_meet.specs.Meets.{standing}
use Rattle.ts_bound.proofs.FitLaws.{fits_at}
use Rattle.ts_bound.proofs.SpanRuns.{with_begun, with_more}
use Rattle.ts_bound.proofs.block.glue_state.Goals as goal

pub loop-r-init : goal.loop-r-init
loop-r-init c p h = with_begun (Some p) (standing c.args.q (spans_of c.args.left.now)) c.args.right.now _ c.args.n c.args.before

pub glue_pair-requires-clause-right_fits : goal.glue_pair-requires-clause-right_fits
glue_pair-requires-clause-right_fits c =
    fits_at c.args.right.now c.loop-r.r _ _ (omega (arith, c.loop-r-test.true, c.loop-r.auto.r-end, c.requires.right_states)) refl c.requires.right_fit

pub glue_pair-requires-clause-cell : goal.glue_pair-requires-clause-cell
glue_pair-requires-clause-cell c = subst IsCellValue (sym (to_z-of_z w64 c.args.cell c.ranges.cell)) c.requires.cell

pub loop-r-preserved : goal.loop-r-preserved
loop-r-preserved c p h =
    c.hull-span.ensures
    ∙ with_more (Some p) (standing c.args.q (spans_of c.args.left.now)) c.args.right.now _ _ c.args.n c.loop-r.r _ _ _ c.loop-r.span c.glue_pair.result
    refl refl (omega (arith, c.loop-r-test.true, c.loop-r.auto.r-end, c.requires.right_states)) refl (c.glue_pair.ensures p h) (c.loop-r.invariant p h)

pub returns : goal.returns
returns c p h =
    let left = standing c.args.q (spans_of c.args.left.now) in let right = c.args.joints.now.right_states in
    let e : c.loop-r.r ≡ right = omega (arith, c.loop-r-test.false, c.loop-r.auto.r-end) in
    c.loop-r.invariant p h
    ∙ ap (λ k. fold span_hull c.args.before (glued_with (Some p) left c.args.right.now (to_z w64 (of_z w64 c.args.cell)) c.args.n k)) e
    ∙ ap (λ x. fold span_hull c.args.before (glued_with (Some p) left c.args.right.now x c.args.n right)) (to_z-of_z w64 c.args.cell c.ranges.cell)
