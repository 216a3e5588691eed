use Rattle.std.proofs.Common.{◌≡◌, neg_ℤ, ap, ◌∙◌}
use Rattle.ts_sweep.proofs.RunSteps.{as_passed}
use Rattle.ts_sweep.proofs.turned.TurnedFronts.closed.Goals as goal

pub returns : goal.returns
returns g c =
    let closing = g.F.Fronts.closing c.args.self.by c.args.run in
    as_passed (λ w. c.closed.result ≡ closing w) c.negated.result c.negated.ensures.small c.closed.ensures
    ∙ ap closing (as_passed (λ w. c.negated.result ≡ neg_ℤ w) c.args.next_value c.requires.small c.negated.ensures.value)
