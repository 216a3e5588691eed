use Rattle.std.proofs.Common.{refl}
use Rattle.ts_meet.proofs.Asking.{answered}
use Rattle.ts_meet.proofs.asked.asked_whole.Goals as goal

pub returns-then-excludes : goal.returns-then-excludes
returns-then-excludes g c =
    (answered (g.Q.Asked.excluded c.args.asked) c.excludes.result c.args.span c.hull-whole.result _ c.args.so_far refl c.hull-whole.ensures
    c.excludes.ensures).0 c.if-excludes.true

pub returns-else-excludes : goal.returns-else-excludes
returns-else-excludes g c =
    (answered (g.Q.Asked.excluded c.args.asked) c.excludes.result c.args.span c.hull-whole.result _ c.args.so_far refl c.hull-whole.ensures
    c.excludes.ensures).1 c.if-excludes.false
