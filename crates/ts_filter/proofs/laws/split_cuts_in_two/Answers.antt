use Rattle.ts_filter.proofs.BoxParts.{split_cuts_in_two, lower_first}
use Rattle.ts_filter.proofs.laws.split_cuts_in_two.Goals as goal

pub returns-clause-two : goal.returns-clause-two
returns-clause-two c = split_cuts_in_two

pub returns-clause-order : goal.returns-clause-order
returns-clause-order c = lower_first
