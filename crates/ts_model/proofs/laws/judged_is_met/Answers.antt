use Rattle.ts_model.proofs.MeetsLaw as laws
use Rattle.ts_model.proofs.laws.judged_is_met.Goals as goal

pub returns : goal.returns
returns c = laws.judged_is_met
