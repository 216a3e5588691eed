use Rattle.ts_filter.proofs.AlikeLaws.{asks_only}
use Rattle.ts_filter.proofs.question.Question.each_met.Goals as goal

pub returns-in-Some : goal.returns-in-Some
returns-in-Some c = asks_only c.args.requirements c.in-Some.r.now c.in-Some.ensures.refuted c.in-Some.ensures.alone
