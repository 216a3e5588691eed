use Rattle.std.proofs.Common.{◌≡◌, length, rules}
use Rattle.ts_validate.proofs.Tours.{started_tour}
use Rattle.ts_validate.proofs.arrival.reach.Goals as goal

pub loop-alloc-init : goal.loop-alloc-init
loop-alloc-init c =
    let trial = c.args.trial.now in
    let start = c.in_ok-tour.ensures in
    let size : c.len.result ≡ length trial.plan.now.configurations.items = search rules in
    started_tour trial.rows.now trial.pattern.now trial.plan.now c.len.result c.in_ok-tour.tour trial.fits size start.arrivals start.places start.failing
