use Rattle.std.proofs.Common.{true}
use Rattle.ts_meet.specs.Sides.{ends_in}
use Rattle.ts_meet.proofs.Watched.{held_side}
use Rattle.ts_meet.proofs.gluing.is_side_held.Goals as goal

pub returns-then-is_held_by : goal.returns-then-is_held_by
returns-then-is_held_by c wide is =
    held_side wide c.args.operator c.args.held (ends_in c.args.side) (c.are_plain.ensures is) (c.is_held_by.ensures true c.if-is_held_by.true)
