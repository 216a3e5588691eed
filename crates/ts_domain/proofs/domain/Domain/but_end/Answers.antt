use Rattle.std.proofs.Common.{◌≡◌, ℤ, pos, negsuc, neg_ℤ, ◌-ℤ◌, ◌≤ℤ◌, arith, sym, ap, ◌∙◌}
use Rattle.std.proofs.lemmas.Int.{ints, to_z-of_z}
use mir.Syntax.{w64}
use mir.Val.{of_z, to_z, SFits}
use Rattle.ts_domain.specs.Kept.{values_above, values_up_to}
use Rattle.ts_domain.proofs.PlaceLaws.{but_high, but_low}
use Rattle.ts_domain.proofs.Places.{small_is}
use Rattle.ts_domain.proofs.domain.Domain.but_end.Goals as goal

-- words that are the same are of the same number
same_number : (v w : ℤ) → SFits w64 v → neg_ℤ (pos 1000000) ≤ℤ w → w ≤ℤ pos 1000000 → of_z w64 v ≡ of_z w64 w → v ≡ w
same_number v w fits from to e = sym (to_z-of_z w64 v fits) ∙ ap (to_z w64) e ∙ small_is w from to

pub returns-then-v-range : goal.returns-then-v-range
returns-then-v-range c =
    let r = c.in_ok-range.ensures in let fits : SFits w64 c.args.v = record { sfits = c.ranges.v.sfits } in
    ap (λ v. values_above v c.args.self.now) (to_z-of_z w64 c.args.v fits)
    ∙ but_low c.args.self.now c.in_ok-range.range c.args.v r
    (same_number c.args.v c.in_ok-range.range.low fits r.from (omega (arith, ints, r.ordered, r.to)) c.if-v-range.true)

pub returns-then-v-range-2 : goal.returns-then-v-range-2
returns-then-v-range-2 c =
    let r = c.in_ok-range.ensures in let fits : SFits w64 c.args.v = record { sfits = c.ranges.v.sfits } in
    let is = same_number c.args.v c.in_ok-range.range.high fits (omega (arith, ints, r.ordered, r.from)) r.to c.if-v-range-2.true in
    let less : (to_z w64 (of_z w64 c.args.v) -ℤ pos 1) ≡ (c.args.v -ℤ pos 1) = ap (λ v. v -ℤ pos 1) (to_z-of_z w64 c.args.v fits) in
    ap (λ v. values_up_to v c.args.self.now)
    (ap (λ v. to_z w64 (of_z w64 v)) less ∙ small_less c.args.v (omega (arith, ints, is, r.ordered, r.from)) (omega (arith, ints, is, r.to)))
    ∙ but_high c.args.self.now c.in_ok-range.range c.args.v r is
  where
    less_fits : (z : ℤ) → neg_ℤ (pos 1000001) ≤ℤ z → z ≤ℤ pos 1000000 → SFits w64 z
    less_fits (pos n) from to = record { sfits = omega (arith, ints, from, to) }
    less_fits (negsuc n) from to = record { sfits = omega (arith, ints, from, to) }

    small_less : (v : ℤ) → neg_ℤ (pos 1000000) ≤ℤ v → v ≤ℤ pos 1000000 → to_z w64 (of_z w64 (v -ℤ pos 1)) ≡ (v -ℤ pos 1)
    small_less v from to = to_z-of_z w64 (v -ℤ pos 1) (less_fits (v -ℤ pos 1) (omega (arith, ints, from)) (omega (arith, ints, to)))
