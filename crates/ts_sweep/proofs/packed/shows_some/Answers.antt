use Rattle.std.proofs.Common.{rules, ◌∙◌}
use Rattle.ts_sweep.proofs.ShownLanes.{whole_shows}
use Rattle.ts_sweep.proofs.packed.shows_some.Goals as goal

pub returns : goal.returns
returns g c = search rules ∙ whole_shows g.row.N c.args.lane c.args.at c.requires.whole c.requires.inside c.requires.packed
