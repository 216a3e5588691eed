-- Sums of ends that are small, as the program makes them.
use Rattle.std.proofs.Common.{◌≡◌, ℤ, ◌+ℤ◌, ap, ◌∙◌, arith}
use Rattle.std.proofs.lemmas.Int.{ints, to_z-of_z}
use Rattle.ts_sweep.specs.declared.packed.Ends.{Ends}
use Rattle.ts_sweep.specs.Operators.{sum_of_ends}
use Rattle.ts_sweep.specs.Packed.{ends, IsWithin, AreWithin}
use mir.Val.{SFits, of_z, to_z}
use mir.Syntax.{w64}

fits_one : (x : ℤ) → IsWithin 9 x → SFits w64 x
fits_one x h = let low = h.0 in let high = h.1 in grind (arith, ints)

fits_both : (x y : ℤ) → IsWithin 9 x → IsWithin 9 y → SFits w64 (x +ℤ y)
fits_both x y h k = let a = h.0 in let b = h.1 in let c = k.0 in let d = k.1 in grind (arith, ints)

sum_kept : (x y : ℤ) → IsWithin 9 x → IsWithin 9 y → to_z w64 (of_z w64 (to_z w64 (of_z w64 x) +ℤ to_z w64 (of_z w64 y))) ≡ x +ℤ y
sum_kept x y h k =
    ap (λ a. to_z w64 (of_z w64 (a +ℤ to_z w64 (of_z w64 y)))) (to_z-of_z w64 x (fits_one x h))
    ∙ ap (λ b. to_z w64 (of_z w64 (x +ℤ b))) (to_z-of_z w64 y (fits_one y k)) ∙ to_z-of_z w64 (x +ℤ y) (fits_both x y h k)

same_ends : (a b c d : ℤ) → a ≡ c → b ≡ d → ends a b ≡ ends c d
same_ends a b c d p q = cc

pub sums_kept : (a b : Ends) → AreWithin 9 a → AreWithin 9 b →
    ends (to_z w64 (of_z w64 (to_z w64 (of_z w64 a.below) +ℤ to_z w64 (of_z w64 b.below))))
    (to_z w64 (of_z w64 (to_z w64 (of_z w64 a.above) +ℤ to_z w64 (of_z w64 b.above)))) ≡ sum_of_ends a b
sums_kept a b p q = same_ends _ _ _ _ (sum_kept a.below b.below p.0 q.0) (sum_kept a.above b.above p.1 q.1)
