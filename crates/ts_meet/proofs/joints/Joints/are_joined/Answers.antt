use Rattle.std.proofs.Common.{◌∙◌, ap}
use Rattle.ts_glue.specs.Shapes.{goes_on}
use Rattle.ts_meet.proofs.Gluings.{goes_on_is}
use Rattle.ts_meet.proofs.joints.Joints.are_joined.Goals as goal

pub returns : goal.returns
returns c p h = c.goes_on.ensures ∙ ap goes_on (c.shape.ensures p h) ∙ goes_on_is p c.args.left c.args.right
