use Rattle.ts_search.proofs.Closing.{one_listed}
use Rattle.ts_search.proofs.laws.one_listed.Goals as goal

pub returns : goal.returns
returns c = one_listed
