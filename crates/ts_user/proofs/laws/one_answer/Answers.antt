use Rattle.ts_user.proofs.OneAnswer.{listed_not_refused, listed_not_too_many, refused_not_too_many, one_refusal}
use Rattle.ts_user.proofs.laws.one_answer.Goals as goal

pub returns-clause-listed_refused : goal.returns-clause-listed_refused
returns-clause-listed_refused c = listed_not_refused

pub returns-clause-listed_many : goal.returns-clause-listed_many
returns-clause-listed_many c = listed_not_too_many

pub returns-clause-refused_many : goal.returns-clause-refused_many
returns-clause-refused_many c = refused_not_too_many

pub returns-clause-one_refusal : goal.returns-clause-one_refusal
returns-clause-one_refusal c = one_refusal
