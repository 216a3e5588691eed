use Rattle.ts_filter.proofs.SoundLaws.{singles_are_exact}
use Rattle.ts_filter.proofs.laws.singles_are_exact.Goals as goal

pub returns : goal.returns
returns c = singles_are_exact
