use Rattle.std.proofs.Common.{subst}
use Rattle.ts_base.specs.Spans.{span_hull}
use Rattle.ts_meet.specs.Asked.{IsAnswer, IsHullUntil}
use Rattle.ts_meet.specs.Sides.{StandFor}
use Rattle.ts_meet.proofs.Asking.{part_has}
use Rattle.ts_meet.proofs.asked.answered.Goals as goal

pub returns-in-Some : goal.returns-in-Some
returns-in-Some g c enough whole are until =
    let stands : StandFor c.in-Some.hull whole = subst (IsHullUntil enough whole) c.in-Some.is until in
    subst (λ z. IsAnswer (g.Q.Asked.excluded c.args.asked) (span_hull c.args.so_far z) c.asked_whole.result) (c.span_of.ensures whole stands)
    c.asked_whole.ensures

pub returns-in-None : goal.returns-in-None
returns-in-None g c enough whole are until =
    part_has (g.Q.Asked.excluded c.args.asked) (g.met.Q.Asked.of_part c.args.asked) enough c.args.so_far whole are
    (subst (IsHullUntil enough whole) c.in-None.is until)
