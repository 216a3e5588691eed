use Rattle.ts_filter.proofs.SoundLaws.{drop_loses_none}
use Rattle.ts_filter.proofs.laws.drop_loses_none.Goals as goal

pub returns : goal.returns
returns c = drop_loses_none
