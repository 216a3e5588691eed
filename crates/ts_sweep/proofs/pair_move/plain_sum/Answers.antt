use Rattle.std.proofs.Common.{◌∙◌}
use Rattle.ts_sweep.proofs.PairLaws.{add_ends, more_within}
use Rattle.ts_sweep.proofs.PlainSums.{sums_kept}
use Rattle.ts_sweep.proofs.pair_move.plain_sum.Goals as goal

pub returns : goal.returns
returns c =
    sums_kept c.args.a c.args.b (more_within c.args.a c.requires.first) (more_within c.args.b c.requires.second)
    ∙ add_ends c.args.a c.args.b c.requires.first c.requires.second
