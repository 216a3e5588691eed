-- Lanes that are the greater are those of the definition.
use Rattle.std.proofs.Common.{◌≡◌, ℕ, suc, ℤ, List, [], ◌∷◌, length, refl, arith}
use Rattle.ts_sweep.specs.Lanes.{greater_of, AreGreater}
use Rattle.ts_sweep.specs.LaneLaws.{cons_same}

pub greater_is : (n : ℕ) (xs ys zs : List ℤ) → length xs ≡ n → length ys ≡ n → length zs ≡ n → AreGreater n xs ys zs → zs ≡ greater_of xs ys
unfolding greater_of
greater_is n [] ys [] a b c h = refl
greater_is n [] ys (z ∷ zs) a b c h = absurd (omega (arith, a, c))
greater_is n (x ∷ xs) [] zs a b c h = absurd (omega (arith, a, b))
greater_is n (x ∷ xs) (y ∷ ys) [] a b c h = absurd (omega (arith, a, c))
greater_is n (x ∷ xs) (y ∷ ys) (z ∷ zs) a b c h =
    let la : length xs ≡ length xs = refl in
    let lb : length ys ≡ length xs = omega (arith, a, b) in
    let lc : length zs ≡ length xs = omega (arith, a, c) in
    let rest : AreGreater (length xs) xs ys zs = λ k lt. h (suc k) (omega (arith, a, lt)) in
    cons_same _ _ _ _ (h 0 (omega (arith, a))) (greater_is (length xs) xs ys zs la lb lc rest)
