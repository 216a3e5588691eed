use Rattle.ts_model.proofs.ReadingLaws.{reading_is}
use Rattle.ts_model.proofs.laws.reading_is_first.Goals as goal

pub returns : goal.returns
returns c = reading_is
