use Rattle.ts_search.proofs.Closing.{search_solves}
use Rattle.ts_search.proofs.laws.search_solves.Goals as goal

pub returns : goal.returns
returns c = search_solves
