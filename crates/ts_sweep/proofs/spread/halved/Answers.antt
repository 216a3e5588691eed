use Rattle.std.proofs.Common.{◌≡◌, ◌+◌, ◌-◌, ◌/◌, ◌<◌, ◌≤◌, ℕ, nat_eq, not, false, sym, ap, subst, w64, to_z, of_z, ◌∙◌, arith}
use denote.Param.{number, value_of}
use Rattle.std.proofs.lemmas.Int.{to_z-of_z}
use Rattle.ts_hull.specs.Sweeps.{compares}
use Rattle.ts_sweep.specs.Sweeps.{step_place}
use Rattle.ts_sweep.proofs.SpreadWalks.{halves_more}
use Rattle.ts_sweep.proofs.spread.halved.Goals as goal

half_inside : (low high n : ℕ) → low < high → high ≤ n → low + (high - low) / 2 < n
half_inside low high n less most = omega (arith, less, most)

half_most : (low high n : ℕ) → low < high → high ≤ n → low + (high - low) / 2 ≤ n
half_most low high n less most = omega (arith, less, most)

pub loop-low-init : goal.loop-low-init
loop-low-init g c = (λ k inside less. absurd (omega (arith, less)), omega arith, c.count-n.ensures, c.reach_of-reach.ensures)

pub loop-low-preserved : goal.loop-low-preserved
loop-low-preserved g c =
    let up = (not (nat_eq (value_of (number g.row.UP)) 0)) in
    let value = g.V.Values.value c.args.values in
    let w = to_z w64 (of_z w64 c.args.w) in
    let is = c.loop-low.invariant in
    let mid = c.loop-low.low + (c.loop-low.high - c.loop-low.low) / 2 in (
      halves_more up c.args.letter c.args.twin (g.V.Values.len c.args.values) value w mid c.requires.last
          (λ i j lt inside. g.met.V.Values.rises c.args.values c.requires.ok i j lt inside)
          (subst (λ n. mid < n) is.2 (half_inside c.loop-low.low c.loop-low.high _ c.loop-low-test.true is.1))
          (subst (λ n. compares c.args.letter c.args.twin (value (step_place up n mid)) w ≡ false) is.2
          (ap (λ i. compares c.args.letter c.args.twin (value i) w) (sym c.step_place-i.ensures.value) ∙ sym c.is_reached.ensures
          ∙ c.if-is_reached.false)),
      is.1,
      is.2,
      is.3,
    )

pub loop-low-preserved-then-is_reached : goal.loop-low-preserved-then-is_reached
loop-low-preserved-then-is_reached g c =
    let is = c.loop-low.invariant in (
      is.0,
      half_most c.loop-low.low c.loop-low.high c.count-n.result c.loop-low-test.true is.1,
      is.2,
      is.3,
    )

pub returns : goal.returns
returns g c = λ k inside less.
    let up = (not (nat_eq (value_of (number g.row.UP)) 0)) in
    ap (λ z. compares c.args.letter c.args.twin (g.V.Values.value c.args.values (step_place up (g.V.Values.len c.args.values) k)) z)
    (sym (to_z-of_z w64 c.args.w c.ranges.w))
    ∙ c.loop-low.invariant.0 k inside less
