-- The row of all signatures.
use Rattle.std.specs.Prelude.{◌≡◌, ◌⊎◌, ℕ, zero, suc, ◌+◌, ◌*◌, ◌<◌, ◌≤◌, nat_lt, Bool, true, false, List, [], ◌∷◌, ◌++◌, length, refl}
use Rattle.std.proofs.Common.{sym, ◌∙◌, ap, inl, inr, arith, ⊎_elim}
use Rattle.std.proofs.lemmas.Bool.{ltb-true, ltb-false}
use Rattle.ts_base.specs.declared.letter.Letter.{Letter}
use Rattle.ts_base.specs.declared.letter.Letter.TheVariants.{Less, Equal, Greater}
use Rattle.ts_user.specs.SignatureOrder.{digit, place_after, place}

-- two numbers

pub split : (a b : ℕ) → (a < b) ⊎ (b ≤ a)
split a b = go (nat_lt a b) refl
  where
    go : (c : Bool) → nat_lt a b ≡ c → (a < b) ⊎ (b ≤ a)
    go true e = inl (ltb-true a b e)
    go false e = inr (ltb-false a b e)

pub at_most : (i n : ℕ) → i < n + 1 → (i < n) ⊎ (i ≡ n)
at_most i n q = ⊎_elim (λ a. inl a) (λ a. inr (omega (arith, a, q))) (split i n)

after_push : (n : ℕ) (w : List Letter) (l : Letter) → place_after n (w ++ l ∷ []) ≡ 3 * place_after n w + digit l
after_push n [] l = refl
after_push n (m ∷ w) l = after_push (3 * n + digit m) w l

pub place_push : (w : List Letter) (l : Letter) → place (w ++ l ∷ []) ≡ 3 * place w + digit l
place_push w l = after_push 0 w l

pub digit_bounds : (l : Letter) → (1 ≤ digit l) × (digit l ≤ 3)
digit_bounds Less = (omega arith, omega arith)
digit_bounds Equal = (omega arith, omega arith)
digit_bounds Greater = (omega arith, omega arith)

digit_same : (l m : Letter) → digit l ≡ digit m → l ≡ m
digit_same Less Less q = refl
digit_same Less Equal q = absurd (omega (arith, q))
digit_same Less Greater q = absurd (omega (arith, q))
digit_same Equal Less q = absurd (omega (arith, q))
digit_same Equal Equal q = refl
digit_same Equal Greater q = absurd (omega (arith, q))
digit_same Greater Less q = absurd (omega (arith, q))
digit_same Greater Equal q = absurd (omega (arith, q))
digit_same Greater Greater q = refl

-- a signature is empty, or has a last letter
abbrev pub HasLast : List Letter → Type 0
HasLast w = (v : List Letter) × (l : Letter) × (w ≡ v ++ l ∷ []) × (length w ≡ length v + 1)

pub last_of : (w : List Letter) → (w ≡ []) ⊎ HasLast w
last_of [] = inl refl
last_of (l ∷ w) =
    inr (⊎_elim (λ (q : w ≡ []). ([], l, ap (λ z. l ∷ z) q, ap (λ (z : List Letter). length (l ∷ z)) q))
    (λ (h : HasLast w). (l ∷ h.0, h.1, ap (λ z. l ∷ z) h.2, let q = h.3 in omega (arith, q))) (last_of w))

one_empty : (v w : List Letter) → v ≡ [] → HasLast w → place v ≡ place w → ⊥
one_empty v w a h e =
    let p = ap (λ z. place z) h.2 ∙ place_push h.0 h.1 in let d = digit_bounds h.1 in
    let z : place v ≡ 0 = ap (λ z. place z) a in omega (arith, p, d, z, e)

place_same_in : (n : ℕ) (v w : List Letter) → length v ≤ n → place v ≡ place w → v ≡ w
place_same_in zero v w q e = go (last_of v) (last_of w)
  where
    go : (v ≡ []) ⊎ HasLast v → (w ≡ []) ⊎ HasLast w → v ≡ w
    go (inl a) (inl b) = a ∙ sym b
    go (inl a) (inr h) = absurd (one_empty v w a h e)
    go (inr g) b = absurd (let s = g.3 in omega (arith, q, s))
place_same_in (suc n) v w q e = go (last_of v) (last_of w) (λ a b r f. place_same_in n a b r f)
  where
    go : (v ≡ []) ⊎ HasLast v → (w ≡ []) ⊎ HasLast w → ((a b : List Letter) → length a ≤ n → place a ≡ place b → a ≡ b) → v ≡ w
    go (inl a) (inl b) i = a ∙ sym b
    go (inl a) (inr h) i = absurd (one_empty v w a h e)
    go (inr g) (inl b) i = absurd (one_empty w v b g (sym e))
    go (inr g) (inr h) i =
        let p = ap (λ z. place z) g.2 ∙ place_push g.0 g.1 in
        let r = ap (λ z. place z) h.2 ∙ place_push h.0 h.1 in
        let c = digit_bounds g.1 in let d = digit_bounds h.1 in
        let front : place g.0 ≡ place h.0 = omega (arith, p, r, c, d, e) in
        let last : digit g.1 ≡ digit h.1 = omega (arith, p, r, front, e) in
        let s = g.3 in
        g.2 ∙ ap (λ z. z ++ g.1 ∷ []) (i g.0 h.0 (omega (arith, q, s)) front)
        ∙ ap (λ z. h.0 ++ z ∷ []) (digit_same g.1 h.1 last) ∙ sym h.2

-- two signatures of one place are one
pub place_same : (v w : List Letter) → place v ≡ place w → v ≡ w
place_same v w e = place_same_in (length v) v w (omega arith) e
