use Rattle.std.specs.Prelude.{Some}
use Rattle.ts_meet.proofs.asked.asked_until.Goals as goal

pub returns : goal.returns
returns g c p h = c.answered.ensures (Some c.args.enough) _ c.requires.enough (c.glued_until-hull.ensures p h)
