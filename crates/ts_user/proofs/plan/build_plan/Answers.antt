use Rattle.ts_transducer.specs.Rows.{rows_of}
use Rattle.ts_user.proofs.Plans.{closed_lent, listing_lent, plan_numbered, plan_once, plan_fits, plan_few}
use Rattle.ts_user.proofs.plan.build_plan.Goals as goal

pub returns-clause-fits : goal.returns-clause-fits
returns-clause-fits c =
    plan_fits c.rows.result.now c.args.p.now c.in_ok-into_plan.field-0 c.in_ok-listing.listing c.in_ok-listing.ensures.listed c.in_ok-listing.ensures.whole
    c.in_ok-into_plan.ensures.residuals
    c.in_ok-into_plan.ensures.configurations

pub returns-clause-residuals : goal.returns-clause-residuals
returns-clause-residuals c =
    plan_few c.rows.result.now c.args.p.now c.in_ok-into_plan.field-0 c.in_ok-listing.listing c.in_ok-listing.ensures.listed c.in_ok-into_plan.ensures.residuals

pub returns-clause-closed : goal.returns-clause-closed
returns-clause-closed c =
    closed_lent c.rows.result.now (rows_of c.args.t.now) c.args.p.now c.in_ok-into_plan.field-0 c.in_ok-listing.listing c.rows.ensures.rows
    c.in_ok-listing.ensures.listed
    c.in_ok-listing.ensures.whole c.in_ok-into_plan.ensures.residuals c.in_ok-into_plan.ensures.configurations

pub returns-clause-listed : goal.returns-clause-listed
returns-clause-listed c =
    listing_lent c.rows.result.now (rows_of c.args.t.now) c.args.p.now c.in_ok-into_plan.field-0 c.in_ok-listing.listing c.rows.ensures.rows
    c.in_ok-listing.ensures.listed
    c.in_ok-listing.ensures.whole c.in_ok-into_plan.ensures.residuals c.in_ok-into_plan.ensures.configurations

pub returns-clause-numbered : goal.returns-clause-numbered
returns-clause-numbered c =
    plan_numbered c.rows.result.now c.args.p.now c.in_ok-into_plan.field-0 c.in_ok-listing.listing c.in_ok-listing.ensures.listed
    c.in_ok-into_plan.ensures.residuals
    c.in_ok-into_plan.ensures.configurations

pub returns-clause-once : goal.returns-clause-once
returns-clause-once c =
    plan_once c.rows.result.now c.args.p.now c.in_ok-into_plan.field-0 c.in_ok-listing.listing c.in_ok-listing.ensures.listed
    c.in_ok-into_plan.ensures.residuals
