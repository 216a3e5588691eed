use Rattle.std.proofs.Common.{refl}
use Rattle.ts_sweep.proofs.PlainSums.{sums_kept}
use Rattle.ts_sweep.proofs.operator.PlusOperator.of.Goals as goal

pub returns : goal.returns
returns c = sums_kept c.args.a c.args.b (c.requires.first refl) (c.requires.second refl)
