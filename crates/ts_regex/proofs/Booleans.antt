-- Tests of two parts, and of what they decide.
use Rattle.std.specs.Prelude.{◌≡◌, ◌⊎◌, Bool, true, false, ◌||◌, refl}
use Rattle.std.proofs.Common.{sym, ◌∙◌, inl, inr}
use Rattle.std.proofs.lemmas.Bool.{false≢true}

pub either_true : (a b : Bool) → a || b ≡ true → (a ≡ true) ⊎ (b ≡ true)
either_true true b q = inl refl
either_true false b q = inr q

-- a test that is true wherever P holds, is false, so P does not hold
pub refuted : {P : Type 0} (b : Bool) → (P → b ≡ true) → b ≡ false → P → ⊥
refuted b f q p = false≢true (sym q ∙ f p)
