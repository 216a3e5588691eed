use Rattle.std.proofs.Common.{sym, subst}
use Rattle.ts_bound.specs.AnyRows.{form_sides}
use Rattle.ts_filter.specs.declared.question.Question.{Question}
use Rattle.ts_filter.specs.Alike.{IsServed}
use Rattle.ts_filter.proofs.enough_form.enough_form.Goals as goal

pub returns-in-Compares-clause-served : goal.returns-in-Compares-clause-served
returns-in-Compares-clause-served c =
    subst (λ (a : Question). IsServed (form_sides c.form_to_compare.result) c.args.mark c.args.n a) (sym c.in-Compares.is) c.form_to_compare.ensures.served

pub returns-in-MeetsEach-clause-served : goal.returns-in-MeetsEach-clause-served
returns-in-MeetsEach-clause-served c =
    subst (λ (a : Question). IsServed (form_sides c.form_to_meet.result) c.args.mark c.args.n a) (sym c.in-MeetsEach.is) c.form_to_meet.ensures.served

pub returns-in-Counts-clause-served : goal.returns-in-Counts-clause-served
returns-in-Counts-clause-served c =
    subst (λ (a : Question). IsServed (form_sides c.form_to_count.result) c.args.mark c.args.n a) (sym c.in-Counts.is) c.form_to_count.ensures.served
