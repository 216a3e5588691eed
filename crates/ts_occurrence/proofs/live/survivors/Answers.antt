use Rattle.std.proofs.Common.{get_or, refl}
use Rattle.ts_occurrence.specs.Residuals.{shapes_met}
use Rattle.ts_occurrence.proofs.Known.{grows_on, number_within, within_grown}
use Rattle.ts_occurrence.proofs.Survivors.{known_stable, known_at, survivors_step}
use Rattle.ts_occurrence.proofs.live.survivors.Goals as goal

pub after-requires-clause-there : goal.after-requires-clause-there
after-requires-clause-there c =
    within_grown (shapes_met c.args.residuals.now.met.items) c.loop-k.residuals.met.items _ c.loop-k.invariant.grown
    (known_at (shapes_met c.args.residuals.now.met.items) c.args.live.now c.loop-k.k (get_or c.args.live.now c.loop-k.k (record { start = 0; residual = 0 }))
    (record { start = 0; residual = 0 }) c.requires.known c.loop-k-test.true refl)

pub keep-requires-clause-there : goal.keep-requires-clause-there
keep-requires-clause-there c = number_within c.after.new.self.met.items c.in_ok-rest.rest _ c.in_ok-rest.ensures.exact

pub keep-requires-clause-known : goal.keep-requires-clause-known
keep-requires-clause-known c = known_stable _ _ c.in_ok-rest.ensures.grown c.loop-k.kept.items c.loop-k.invariant.met

pub loop-k-preserved : goal.loop-k-preserved
loop-k-preserved c =
    record {
      right = c.in_ok-rest.ensures.right;
      grown = grows_on (shapes_met c.args.residuals.now.met.items) (shapes_met c.loop-k.residuals.met.items) (shapes_met c.after.new.self.met.items)
          c.loop-k.invariant.grown
          c.in_ok-rest.ensures.grown;
      met = c.in_ok-keep.ensures.known;
      exact = survivors_step c.args.l (shapes_met c.args.residuals.now.met.items) (shapes_met c.loop-k.residuals.met.items)
          (shapes_met c.after.new.self.met.items)
          c.args.live.now c.loop-k.kept.items c.keep.new.kept.items c.loop-k.k c.in_ok-rest.rest _ _ (record { start = 0; residual = 0 })
          (record { start = 0; residual = 0 }) c.loop-k-test.true refl refl c.requires.known c.loop-k.invariant.grown c.in_ok-rest.ensures.grown
          c.loop-k.invariant.met c.in_ok-rest.ensures.exact c.loop-k.invariant.exact c.in_ok-keep.ensures.exact;
    }
