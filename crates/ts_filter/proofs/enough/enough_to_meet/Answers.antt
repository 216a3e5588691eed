use Rattle.ts_filter.proofs.EnoughEnds.{reaches_both}
use Rattle.ts_filter.proofs.enough.enough_to_meet.Goals as goal

pub returns : goal.returns
returns c s reaches =
    let each = reaches_both c.args.ends c.in_ok-own.own c.farther.result s c.farther.ensures reaches in (each.0, λ own. c.in_ok-own.ensures s each.1)
