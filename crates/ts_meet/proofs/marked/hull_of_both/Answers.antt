use Rattle.std.proofs.Common.{sym, subst}
use Rattle.ts_base.specs.Spans.{span_hull}
use Rattle.ts_meet.specs.Sides.{StandFor}
use Rattle.ts_meet.proofs.Places.{takes_both}
use Rattle.ts_meet.proofs.marked.hull_of_both.Goals as goal

pub returns : goal.returns
returns c s t p q = subst (λ z. StandFor z (span_hull s t)) (sym c.greater.ensures) (takes_both c.args.a c.args.b s t p q)
