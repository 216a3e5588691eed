-- How short the words of an expression are.
use Rattle.std.specs.Prelude.{ℕ, ◌+◌, ◌≤◌, ◌<◌, ◌≡◌, ◌↔◌, ◌⊎◌, min, max, List, [], ◌∷◌, ◌++◌, length, Bool, true, false, nat_lt}
use Rattle.std.proofs.Common.{sym, subst, arith, length-append, ⊎_elim, refl, inl, inr}
use Rattle.std.proofs.str.Laws.{order}
use Rattle.ts_base.specs.declared.letter.Letter.{Letter}
use Rattle.ts_regex.specs.Shape.{Shape, Empty, Eps, One, Cat, Alt, Star}
use Rattle.ts_regex.specs.Language.{InLanguage, NoMore}
use Rattle.ts_pattern.specs.Trims.{HasLongWords}
use Rattle.ts_user.specs.Shortest.{short_length, has_short_word, HasShortWord}

pub no_shorter : (r : Shape) (w : List Letter) → InLanguage r w → short_length r ≤ length w
no_shorter Empty w h = absurd h
no_shorter Eps w h = omega arith
no_shorter (One l) w h = subst (λ v. 1 ≤ length v) (sym h) (omega arith)
no_shorter (Cat r s) w h =
    let x = no_shorter r h.0 h.3 in
    let y = no_shorter s h.1 h.4 in
    let n = length-append h.0 h.1 in
    subst (λ v. min 3 (short_length r + short_length s) ≤ length v) (sym h.2) (omega arith)
no_shorter (Alt r s) w h =
    ⊎_elim (λ a. let x = no_shorter r w a in omega arith) (λ a. let x = no_shorter s w a in omega arith) h
no_shorter (Star r) w h = omega arith

-- a word of exactly that length, where it is below three
pub shortest : (r : Shape) → short_length r < 3 → (w : List Letter) × InLanguage r w × (length w ≡ short_length r)
shortest Empty h = absurd (omega arith)
shortest Eps h = ([], refl, refl)
shortest (One l) h = (l ∷ [], refl, refl)
shortest (Cat r s) h =
    let x = shortest r (omega arith) in
    let y = shortest s (omega arith) in
    let n = length-append x.0 y.0 in
    let p = x.2 in
    let q = y.2 in
    (x.0 ++ y.0, (x.0, y.0, refl, x.1, y.1), omega arith)
shortest (Alt r s) h =
    ⊎_elim
    (λ less. let y = shortest s (omega arith) in let q = y.2 in (y.0, inr y.1, omega arith))
    (λ more. let x = shortest r (omega arith) in let p = x.2 in (x.0, inl x.1, omega arith))
    (order (short_length s) (short_length r))
shortest (Star r) h = ([], NoMore [] refl, refl)

pub long_words : (p : Shape) (b a : ℕ) → has_short_word p b a ≡ false → HasLongWords p b a
long_words p b a long w h = let n = no_shorter p w h in (grind arith, grind arith)

one_is_short : (n k : ℕ) (w : List Letter) → length w ≡ n → n < max 1 k → (length w < k) ⊎ (w ≡ [])
one_is_short n k [] e h = inr refl
one_is_short n k (l ∷ w) e h = inl (grind arith)

-- the test is true exactly where there is a short word
pub short_words : (p : Shape) (b a : ℕ) → b ≤ 2 → a ≤ 1 → (has_short_word p b a ≡ true) ↔ HasShortWord p b a
short_words p b a few few' = (
  λ short.
      let x = shortest p (grind arith) in
      (x.0, x.1, one_is_short (short_length p) (b + a) x.0 x.2 (grind arith)),
  λ h. let least = no_shorter p h.0 h.1 in by (nat_lt (short_length p) (max 1 (b + a))) refl h.0 least h.2,
)
  where
    by : (v : Bool) → nat_lt (short_length p) (max 1 (b + a)) ≡ v → (w : List Letter) → short_length p ≤ length w → (length w < b + a) ⊎ (w ≡ []) →
        nat_lt (short_length p) (max 1 (b + a)) ≡ true
    by true e w least h = e
    by false e w least (inl few) = absurd (grind arith)
    by false e [] least (inr none) = absurd (grind arith)
    by false e (l ∷ w) least (inr none) = cc
