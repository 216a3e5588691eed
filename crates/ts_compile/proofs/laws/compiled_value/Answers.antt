use Rattle.ts_compile.proofs.Tables.{compiled_answers, compiled_marked}
use Rattle.ts_compile.proofs.laws.compiled_value.Goals as goal

pub returns-clause-answer : goal.returns-clause-answer
returns-clause-answer c = compiled_answers

pub returns-clause-marked : goal.returns-clause-marked
returns-clause-marked c = compiled_marked
