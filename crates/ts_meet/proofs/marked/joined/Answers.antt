use Rattle.std.proofs.Common.{sym, subst}
use Rattle.ts_base.specs.Spans.{span_hull}
use Rattle.ts_meet.specs.Sides.{StandFor}
use Rattle.ts_meet.proofs.Marks.{takes_in}
use Rattle.ts_meet.proofs.marked.joined.Goals as goal

pub returns : goal.returns
returns c s t p q = subst (λ z. StandFor z (span_hull s t)) (sym c.greater.ensures) (takes_in c.args.hull c.args.e s t p q)
