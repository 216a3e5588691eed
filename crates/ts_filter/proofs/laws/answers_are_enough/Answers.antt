use Rattle.ts_filter.proofs.AnswerLaws.{answers_are_enough}
use Rattle.ts_filter.proofs.laws.answers_are_enough.Goals as goal

pub returns : goal.returns
returns c = answers_are_enough
