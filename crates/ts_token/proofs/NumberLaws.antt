-- Digits that pass the limit.
use Rattle.std.proofs.Common.{◌≡◌, ℕ, suc, ◌+◌, ◌-◌, ◌*◌, ◌<◌, true, false, cond, Some, None, List, [], ◌∷◌, length, drop, get_or, refl, sym, ap, ◌∙◌, arith}
use Rattle.std.proofs.lemmas.Bool.{lt-leb}
use Rattle.std.proofs.Math.Seq.{drop-cons}
use Rattle.ts_token.specs.Number.{is_digit, digits_from, at_most}

too_large : (limit n : ℕ) (bs : List ℕ) → limit < n → at_most limit (digits_from n bs) ≡ None
too_large limit n [] h = ap (λ v. cond v (Some n) None) (lt-leb n limit h)
too_large limit n (b ∷ bs) h =
    let later = too_large limit (n * 10 + (b - 48)) bs (omega arith) in
    elim (is_digit b) as (λ v. at_most limit (cond v (digits_from (n * 10 + (b - 48)) bs) None) ≡ None) [ true ↦ later | false ↦ refl ]

pub over : (limit n i : ℕ) (digits : List ℕ) → i < length digits → is_digit (get_or digits i 0) ≡ true → limit < n * 10 + (get_or digits i 0 - 48) →
    digits_from n (drop i digits) ≡ digits_from 0 digits → at_most limit (digits_from 0 digits) ≡ None
over limit n i digits within digit large kept =
    ap (at_most limit) (sym kept ∙ ap (digits_from n) (drop-cons digits i 0 within)
    ∙ ap (λ v. cond v (digits_from (n * 10 + (get_or digits i 0 - 48)) (drop (suc i) digits)) None) digit)
    ∙ too_large limit (n * 10 + (get_or digits i 0 - 48)) (drop (suc i) digits) large
