use Rattle.ts_user.proofs.OneAnswer.{front_is_first, turns_in_order, letters_in_order}
use Rattle.ts_user.proofs.laws.by_turns.Goals as goal

pub returns-clause-fronts : goal.returns-clause-fronts
returns-clause-fronts c = front_is_first

pub returns-clause-turns : goal.returns-clause-turns
returns-clause-turns c = turns_in_order

pub returns-clause-letters : goal.returns-clause-letters
returns-clause-letters c = letters_in_order
