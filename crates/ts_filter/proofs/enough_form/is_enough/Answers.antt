use denote.Enum.Bare.{same_true}
use Rattle.std.proofs.Common.{sym, ◌∙◌, subst, rules}
use Rattle.ts_bound.specs.contracts.any_row.Form.{the_type}
use Rattle.ts_bound.specs.declared.any_row.Form.{Form}
use Rattle.ts_bound.specs.AnyRows.{form_sides}
use Rattle.ts_filter.specs.declared.question.Question.TheVariants.{Compares}
use Rattle.ts_filter.specs.Alike.{IsServed}
use Rattle.ts_filter.proofs.enough_form.is_enough.Goals as goal

pub returns-else-r-term : goal.returns-else-r-term
returns-else-r-term c e of_term =
    subst (λ (f : Form). IsServed (form_sides f) c.args.mark c.args.n (Compares c.args.r.now.op c.args.r.now.bound))
    (same_true the_type (search rules) c.form_to_compare.result c.args.form (sym c.eq.ensures ∙ e)) c.form_to_compare.ensures.served
