use Rattle.ts_search.proofs.Closing.{one_solved}
use Rattle.ts_search.proofs.laws.one_solved.Goals as goal

pub returns : goal.returns
returns c = one_solved
