-- Tags of a number of signs still to come.
use Rattle.std.specs.Prelude.{◌≡◌, ℕ, zero, suc, ◌-◌, ◌<◌, ◌≤◌, refl}
use Rattle.std.proofs.Common.{arith, ap}
use Rattle.ts_pattern.specs.declared.plan.Tag.TheVariants.{Young}
use Rattle.ts_pattern.specs.Closed.{first_tag, younger}

pub first_young : (b : ℕ) → 0 < b → first_tag b ≡ Young b
first_young zero q = absurd (omega (arith, q))
first_young (suc b) q = refl

pub younger_is : (m : ℕ) → 2 ≤ m → younger m ≡ Young (m - 1)
younger_is zero q = absurd (omega (arith, q))
younger_is (suc zero) q = absurd (omega (arith, q))
younger_is (suc (suc m)) q = ap (λ z. Young z) (let h : suc m ≡ suc (suc m) - 1 = omega arith in h)
