use mir.Syntax.{w64}
use mir.Val.{of_z}
use Rattle.std.proofs.Common.{ap}
use Rattle.ts_meet.proofs.Asking.{stands_reaches}
use Rattle.ts_meet.proofs.asked.has_reached.Goals as goal

pub returns : goal.returns
returns c so s stands =
    stands_reaches c.args.hull c.args.given s stands (λ e. c.if-hull-eq9223372036854775808.false (ap (of_z w64) e)) (c.reaches.ensures so)
