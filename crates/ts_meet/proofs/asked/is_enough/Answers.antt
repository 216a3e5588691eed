use Rattle.std.proofs.Common.{sym, subst}
use Rattle.std.specs.Prelude.{Option, None}
use Rattle.ts_sweep.specs.declared.packed.Ends.{Ends}
use Rattle.ts_meet.specs.Asked.{IsHullUntil}
use Rattle.ts_meet.proofs.asked.is_enough.Goals as goal

pub returns-in-Some : goal.returns-in-Some
returns-in-Some c so s stands =
    subst (λ (e : Option Ends). IsHullUntil e s None) (sym c.in-Some.is) (s, (λ e held. held), c.has_reached.ensures so s stands)
