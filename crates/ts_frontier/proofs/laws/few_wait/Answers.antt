use Rattle.ts_frontier.proofs.Waits.{few_wait, few_wait_after}
use Rattle.ts_frontier.proofs.laws.few_wait.Goals as goal

pub returns-clause-followed : goal.returns-clause-followed
returns-clause-followed c = few_wait

pub returns-clause-fed : goal.returns-clause-fed
returns-clause-fed c = few_wait_after
