use Rattle.ts_meet.proofs.Lanes.{and_first, and_second}
use Rattle.ts_meet.proofs.lane.apart_lane.Goals as goal

pub of_both-requires-clause-left : goal.of_both-requires-clause-left
of_both-requires-clause-left g c = c.is_plain.ensures (and_first c.is_plain.result c.is_plain-2.result c.if-is_plain.true)

pub of_both-requires-clause-right : goal.of_both-requires-clause-right
of_both-requires-clause-right g c = c.is_plain-2.ensures (and_second c.is_plain.result c.is_plain-2.result c.if-is_plain.true)
