use Rattle.ts_user.proofs.OnlyLaws as laws
use Rattle.ts_user.proofs.text_laws.one_reading.Goals as goal

pub returns : goal.returns
returns c = laws.one_reading
