use Rattle.std.proofs.Common.{◌≡◌, sym, subst}
use Rattle.ts_sweep.proofs.Closable.{closable_more}
use Rattle.ts_sweep.proofs.RunSteps.{as_passed}
use Rattle.ts_sweep.proofs.steps.taken_from.Goals as goal

pub returns-clause-closable : goal.returns-clause-closable
returns-clause-closable g c =
    λ can. closable_more g.H.Hull.both (g.F.Fronts.fit c.args.by) (g.F.Fronts.closable c.args.by) (g.F.Fronts.front c.args.by)
    (g.met.F.Fronts.closable_both c.args.by) (g.met.F.Fronts.closable_front c.args.by) c.args.run c.hull.result c.taken.result c.at.result can
    (subst (g.F.Fronts.fit c.args.by) (sym c.hull.ensures) (c.requires.fit c.args.i c.requires.inside)) c.at.ensures.small
    (as_passed (λ z. c.taken.result ≡ g.H.Hull.both c.args.run (g.F.Fronts.front c.args.by c.hull.result z)) c.at.result c.at.ensures.small
    c.taken.ensures)
