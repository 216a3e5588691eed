use Rattle.ts_model.proofs.FitLaws.{whole_stated}
use Rattle.ts_model.proofs.laws.model_is_whole.Goals as goal

pub returns : goal.returns
returns c = whole_stated
