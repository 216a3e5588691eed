use Rattle.std.proofs.Common.{◌↔◌, IsTrue, sym, subst}
use Rattle.ts_filter.specs.declared.question.Question.{Question}
use Rattle.ts_filter.specs.Question.{Excludes}
use Rattle.ts_filter.proofs.Refuting.{some_told}
use Rattle.ts_filter.proofs.question.QuestionAsked.excludes.Goals as goal

pub returns-in-MeetsEach : goal.returns-in-MeetsEach
returns-in-MeetsEach c =
    let own = c.in-MeetsEach.requirements in
    subst (λ (a : Question). IsTrue c.is_some.result ↔ Excludes a c.args.span) (sym c.in-MeetsEach.is)
    (some_told own.all.now own.term c.args.span c.first_refuted.result c.is_some.result c.is_some.ensures c.first_refuted.ensures)
