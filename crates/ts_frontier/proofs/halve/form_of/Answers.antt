use Rattle.ts_frontier.proofs.Halves.{alone_found, wide_found}
use Rattle.ts_frontier.proofs.halve.form_of.Goals as goal

pub returns-in-Some : goal.returns-in-Some
returns-in-Some c = wide_found c.args.b.now.present c.first_halving.result c.in-Some.halving c.first_halving.ensures c.in-Some.is

pub returns-in_ok-only_series-in-None : goal.returns-in_ok-only_series-in-None
returns-in_ok-only_series-in-None c =
    alone_found c.args.b.now.present c.first_halving.result c.in_ok-only_series-in-None.field-0.items c.first_halving.ensures c.in-None.is
    c.in_ok-only_series-in-None.ensures
