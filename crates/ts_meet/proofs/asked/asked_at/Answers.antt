use Rattle.std.proofs.Common.{subst}
use Rattle.ts_base.specs.Spans.{span_hull}
use Rattle.ts_meet.specs.Asked.{IsAnswer}
use Rattle.ts_meet.proofs.asked.asked_at.Goals as goal

pub returns-in-None : goal.returns-in-None
returns-in-None g c p h =
    subst (λ z. IsAnswer (g.Q.Asked.excluded c.args.asked) (span_hull c.args.so_far z) c.asked_whole.result) (c.glued_at.ensures p h) c.asked_whole.ensures
