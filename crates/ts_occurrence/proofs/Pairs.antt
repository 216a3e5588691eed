-- The signature of a series with one more cell has one more letter.
use Rattle.std.specs.Prelude.{◌≡◌, ℤ, pos, ℕ, zero, suc, ◌+◌, ◌-◌, ◌<◌, ◌≤◌, List, [], ◌∷◌, ◌++◌, length, take, refl}
use Rattle.std.proofs.Common.{sym, ◌∙◌, ap, arith, get_or}
use Rattle.ts_base.specs.declared.letter.Letter.{Letter}
use Rattle.ts_base.specs.Signature.{letter_of, signature_of}

-- the first n + 1 cells, and the next one
one_more : (xs : List ℤ) (n : ℕ) → suc n < length xs →
    signature_of (take (suc (suc n)) xs) ≡ signature_of (take (suc n) xs) ++ letter_of (get_or xs n (pos 0)) (get_or xs (suc n) (pos 0)) ∷ []
one_more [] n q = absurd (omega arith)
one_more (x ∷ []) n q = absurd (omega arith)
one_more (x ∷ y ∷ xs) zero q = refl
one_more (x ∷ y ∷ xs) (suc n) q = ap (λ z. letter_of x y ∷ z) (one_more (y ∷ xs) n (omega arith))

pub signature_more : (xs : List ℤ) (k : ℕ) → 1 ≤ k → k < length xs →
    signature_of (take (k + 1) xs) ≡ signature_of (take k xs) ++ letter_of (get_or xs (k - 1) (pos 0)) (get_or xs k (pos 0)) ∷ []
signature_more xs k p q =
    let before : suc (k - 1) ≡ k = omega arith in
    let after : suc (suc (k - 1)) ≡ k + 1 = omega arith in
    ap (λ z. signature_of (take z xs)) (sym after)
    ∙ one_more xs (k - 1) (omega arith)
    ∙ ap (λ z. signature_of (take z xs) ++ letter_of (get_or xs (k - 1) (pos 0)) (get_or xs z (pos 0)) ∷ []) before

pub signature_step : (xs : List ℤ) (k : ℕ) (letters next : List Letter) (l : Letter) (x y : ℤ) → 1 ≤ k → k < length xs → x ≡ get_or xs (k - 1) (pos 0) →
    y ≡ get_or xs k (pos 0) → l ≡ letter_of x y → letters ≡ signature_of (take k xs) → next ≡ letters ++ l ∷ [] → next ≡ signature_of (take (k + 1) xs)
signature_step xs k letters next l x y p q ex ey e before grown =
    grown
    ∙ ap (λ z. z ++ l ∷ []) before
    ∙ ap (λ z. signature_of (take k xs) ++ z ∷ []) (e ∙ ap (λ z. letter_of z y) ex ∙ ap (λ z. letter_of (get_or xs (k - 1) (pos 0)) z) ey)
    ∙ sym (signature_more xs k p q)
