use Rattle.ts_mark.proofs.Holders.{holders}
use Rattle.ts_mark.proofs.laws.words_name_holders.Goals as goal

pub returns : goal.returns
returns c = holders
