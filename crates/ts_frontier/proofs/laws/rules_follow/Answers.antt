use Rattle.ts_frontier.proofs.Waits.{rules_follow}
use Rattle.ts_frontier.proofs.laws.rules_follow.Goals as goal

pub returns : goal.returns
returns c = rules_follow
