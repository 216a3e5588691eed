use Rattle.ts_model.proofs.OnlyLaws as laws
use Rattle.ts_model.proofs.laws.one_reading.Goals as goal

pub returns : goal.returns
returns c = laws.one_reading
