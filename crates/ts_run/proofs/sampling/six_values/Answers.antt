use Rattle.std.proofs.Common.{◌∙◌, ◌∷◌, [], ap, of_z, pos, to_z, w64, ◌+ℤ◌, ℤ}
use Rattle.ts_run.proofs.SampleModelLaws.{high_is, low_is, six_made}
use Rattle.ts_run.proofs.sampling.six_values.Goals as goal

pub returns-in-Ok : goal.returns-in-Ok
returns-in-Ok c =
    let low = low_is c.args.least c.from-low.result c.from-low.ensures c.requires in
    six_made c.args.least _ _ c.in-Ok.domain (ap (λ (z : ℤ). z ∷ []) low)
    (ap (λ (z : ℤ). to_z w64 (of_z w64 (z +ℤ pos 5)) ∷ []) low ∙ ap (λ (z : ℤ). z ∷ []) (high_is c.args.least c.requires))
    c.in-Ok.ensures.domain c.in-Ok.ensures.union
