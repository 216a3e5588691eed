use denote.Enum.Bare.{same_true}
use Rattle.std.proofs.Common.{◌∙◌, ap, rules, sym}
use Rattle.ts_bound.specs.TermSpans.{automata_of}
use Rattle.ts_bound.specs.contracts.any_row.Form.{the_type}
use Rattle.ts_bound.proofs.PackedStacks.{yes}
use Rattle.ts_filter.specs.HeldMachine.{machine_in}
use Rattle.ts_filter.specs.KnownRows.{KnownRows}
use Rattle.ts_filter.proofs.TableRows.{tables}
use Rattle.ts_filter.proofs.TableSteps.{still_served}
use Rattle.ts_filter.proofs.box_tables.BoxTables.serve.Goals as goal

pub returns-else-ne-clause-served : goal.returns-else-ne-clause-served
returns-else-ne-clause-served c =
    let t = c.self.inside in
    still_served c.args.cells.now.present c.args.asked c.args.self.now (tables (automata_of (machine_in t.machine)) t.ahead t.behind t.quiet.items)
    c.form_for-form.result (ap (λ (u : KnownRows). u.machine) c.self.view_is)
    (sym (same_true the_type (search rules) c.form_for-form.result c.form.result (yes _ (sym c.ne.ensures ∙ c.if-ne.false)) ∙ c.form.ensures))
    c.form_for-form.ensures.served
