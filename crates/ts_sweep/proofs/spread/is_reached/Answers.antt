use Rattle.std.proofs.Common.{◌≡◌, ap, ◌∙◌}
use Rattle.ts_hull.specs.Sweeps.{compares}
use Rattle.ts_sweep.specs.PairMoves.{reaches}
use Rattle.ts_sweep.proofs.PairLaws.{reach_compares}
use Rattle.ts_sweep.proofs.RunSteps.{as_passed}
use Rattle.ts_sweep.proofs.spread.is_reached.Goals as goal

pub returns : goal.returns
returns g c =
    as_passed (λ v. c.reaches.result ≡ reaches c.args.reach v) c.at-v.result c.at-v.ensures.small c.reaches.ensures
    ∙ ap (λ r. reaches r c.at-v.result) c.requires.reach
    ∙ reach_compares c.args.letter c.args.twin c.at-v.result c.args.w c.at-v.ensures.small
    ∙ ap (λ v. compares c.args.letter c.args.twin v c.args.w) c.at-v.ensures.value
