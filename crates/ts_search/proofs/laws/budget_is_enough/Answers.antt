use Rattle.ts_search.proofs.Closing.{budget_is_enough, list_budget_is_enough}
use Rattle.ts_search.proofs.laws.budget_is_enough.Goals as goal

pub returns-clause-best : goal.returns-clause-best
returns-clause-best c = budget_is_enough

pub returns-clause-list : goal.returns-clause-list
returns-clause-list c = list_budget_is_enough
