use Rattle.std.proofs.Common.{◌≡◌, ◌<◌, ◌<ℤ◌, suc, pos, nat_eq, not, false, sym, subst, w64, ◌∙◌}
use Rattle.std.proofs.lemmas.Int.{to_z-of_z}
use denote.Param.{number, value_of}
use Rattle.ts_hull.specs.Sweeps.{compares}
use Rattle.ts_sweep.specs.Spreads.{beyond}
use Rattle.ts_sweep.specs.Sweeps.{step_place}
use Rattle.ts_sweep.proofs.RunSteps.{as_passed}
use Rattle.ts_sweep.proofs.SpreadWalks.{skipped_is}
use Rattle.ts_sweep.proofs.spread.first_step.Goals as goal

pub returns-in-Some : goal.returns-in-Some
returns-in-Some g c = λ k inside less.
    let run = c.in-Some.run' in
    let is = c.in-Some.ensures in
    let up = (not (nat_eq (value_of (number g.row.UP)) 0)) in
    let lead : pos (suc k) <ℤ beyond up run.first run.count c.args.w =
    subst (λ z. pos (suc k) <ℤ z) (to_z-of_z w64 c.beyond.result (record { sfits = c.beyond.type_inv })
    ∙ as_passed (λ z. c.beyond.result ≡ beyond up run.first run.count z) c.args.w c.requires.next c.beyond.ensures.value) (c.counted.ensures k less) in
    subst (λ n. compares c.args.letter c.args.twin (g.V.Values.value c.args.values (step_place up n k)) c.args.w ≡ false) is.0
    (skipped_is up c.args.letter c.args.twin run.first run.count (g.V.Values.value c.args.values) c.args.w k (c.come_last.ensures c.if-not-come_last.false)
    (subst (λ n. k < n) (sym is.0) inside) (λ i lt. is.3 i (subst (λ n. i < n) is.0 lt)) lead)
