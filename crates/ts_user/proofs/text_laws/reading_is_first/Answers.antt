use Rattle.ts_user.proofs.ReadingLaws as laws
use Rattle.ts_user.proofs.text_laws.reading_is_first.Goals as goal

pub returns : goal.returns
returns c = laws.reading_is
