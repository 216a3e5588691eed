use Rattle.ts_filter.proofs.SoundLaws.{higher_bar}
use Rattle.ts_filter.proofs.laws.higher_bar_cuts_more.Goals as goal

pub returns : goal.returns
returns c = higher_bar
