use Rattle.ts_seed.proofs.Joins.{joins_rise}
use Rattle.ts_seed.proofs.laws.joins_rise.Goals as goal

pub returns : goal.returns
returns c = joins_rise
