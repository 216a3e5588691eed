use Rattle.ts_meet.specs.Sides.{ends_in}
use Rattle.ts_meet.proofs.Watched.{plain_within}
use Rattle.ts_meet.proofs.gluing.Gluing.is_plain_within.Goals as goal

pub returns : goal.returns
returns c a b is u v =
    plain_within c.args.self (ends_in c.args.left.peaks) (ends_in c.args.right.peaks) a b c.requires (c.is_joined_plain.ensures is) u v
