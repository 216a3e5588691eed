use Rattle.ts_search.proofs.Closing.{search_lists}
use Rattle.ts_search.proofs.laws.search_lists.Goals as goal

pub returns : goal.returns
returns c = search_lists
