use Rattle.ts_model.proofs.FitLaws.{limits_stated}
use Rattle.ts_model.proofs.laws.model_keeps_limits.Goals as goal

pub returns : goal.returns
returns c = limits_stated
