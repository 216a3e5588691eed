use Rattle.std.proofs.Common.{◌≡◌, refl, ap, ◌∙◌, length, arith}
use Rattle.ts_meet.specs.Meets.{hull_of_spans}
use Rattle.ts_bound.specs.Blocks.{finishes}
use Rattle.ts_bound.proofs.FitLaws.{fits_at}
use Rattle.ts_bound.proofs.SpanRuns.{finish_begun, finish_more}
use Rattle.ts_bound.proofs.block.finish_block.Goals as goal

pub loop-q-init : goal.loop-q-init
loop-q-init c = finish_begun c.args.a.now c.args.hulls.now c.args.n c.none-span.result c.none-span.ensures

pub finish_state-requires : goal.finish_state-requires
finish_state-requires c =
    fits_at c.args.hulls.now c.loop-q.q _ _ (omega (arith, c.loop-q-test.true, c.states-states.ensures.count, c.requires.states)) refl c.requires.fit

pub loop-q-preserved : goal.loop-q-preserved
loop-q-preserved c =
    c.hull-span.ensures
    ∙ finish_more c.args.a.now c.args.hulls.now c.args.n c.loop-q.q _ _ c.loop-q.span c.finish_state.result
    (omega (arith, c.loop-q-test.true, c.states-states.ensures.count, c.requires.states)) refl (c.finish_state.ensures c.loop-q.q) c.loop-q.invariant

pub returns : goal.returns
returns c =
    let e : c.loop-q.q ≡ length c.args.a.now.states = omega (arith, c.loop-q-test.false, c.loop-q.auto.q-end, c.states-states.ensures.count) in
    c.loop-q.invariant ∙ ap (λ m. hull_of_spans (finishes c.args.a.now c.args.hulls.now c.args.n m)) e
