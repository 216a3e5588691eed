use Rattle.ts_regex.specs.Shape.{shape_of}
use Rattle.ts_seed.specs.Written.{table_read}
use Rattle.ts_seed.proofs.Closed.{plan_closed, plan_fits, few_residuals, few_configurations}
use Rattle.ts_seed.proofs.seed.seed_by_id.Goals as goal

abbrev pub returns-clause-closed : goal.returns-clause-closed
returns-clause-closed c =
    let table = table_read c.table_of-reading.result.1 c.table_of-reading.result.0 in
    plan_closed c.args.id table _ _ _ c.table_of-reading.ensures.table c.transducer.ensures c.in_ok-pattern.ensures.shape c.in_ok-plan.ensures

abbrev pub returns-clause-fits : goal.returns-clause-fits
returns-clause-fits c =
    let table = table_read c.table_of-reading.result.1 c.table_of-reading.result.0 in
    plan_fits c.args.id table _ _ _ c.table_of-reading.ensures.table c.transducer.ensures c.in_ok-pattern.ensures.shape c.in_ok-plan.ensures

abbrev pub returns-clause-few_residuals : goal.returns-clause-few_residuals
returns-clause-few_residuals c =
    let table = table_read c.table_of-reading.result.1 c.table_of-reading.result.0 in
    few_residuals c.args.id table c.in_ok-plan.field-0 (shape_of c.in_ok-pattern.pattern.regex) c.table_of-reading.ensures.table c.in_ok-plan.ensures

abbrev pub returns-clause-few_configurations : goal.returns-clause-few_configurations
returns-clause-few_configurations c =
    let table = table_read c.table_of-reading.result.1 c.table_of-reading.result.0 in
    few_configurations c.args.id table c.in_ok-plan.field-0 (shape_of c.in_ok-pattern.pattern.regex) c.table_of-reading.ensures.table c.in_ok-plan.ensures
