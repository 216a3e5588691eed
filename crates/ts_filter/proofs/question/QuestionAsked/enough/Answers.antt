use Rattle.std.proofs.Common.{sym, subst}
use Rattle.std.specs.Prelude.{IfSome}
use Rattle.ts_meet.specs.Asked.{AreEnough}
use Rattle.ts_filter.specs.declared.question.Question.{Question}
use Rattle.ts_filter.specs.Question.{Excludes}
use Rattle.ts_filter.proofs.question.QuestionAsked.enough.Goals as goal

pub returns-in-Compares : goal.returns-in-Compares
returns-in-Compares c =
    subst (λ (a : Question). IfSome c.enough_to_compare.result (AreEnough (Excludes a))) (sym c.in-Compares.is) c.enough_to_compare.ensures

pub returns-in-MeetsEach : goal.returns-in-MeetsEach
returns-in-MeetsEach c =
    subst (λ (a : Question). IfSome c.enough.result (AreEnough (Excludes a))) (sym c.in-MeetsEach.is) c.enough.ensures

pub returns-in-Counts : goal.returns-in-Counts
returns-in-Counts c =
    subst (λ (a : Question). IfSome c.enough_to_count.result (AreEnough (Excludes a))) (sym c.in-Counts.is) c.enough_to_count.ensures
