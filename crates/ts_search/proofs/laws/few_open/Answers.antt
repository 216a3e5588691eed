use Rattle.ts_search.proofs.OpenLines.{solved_opens_few, listed_opens_few}
use Rattle.ts_search.proofs.laws.few_open.Goals as goal

pub returns-clause-best : goal.returns-clause-best
returns-clause-best c = solved_opens_few

pub returns-clause-list : goal.returns-clause-list
returns-clause-list c = listed_opens_few
