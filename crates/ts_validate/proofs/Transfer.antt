-- A step by numbers is the step by the residuals themselves, where each residual after the letter that has a word is
-- listed; and where one isn't, the step isn't listed.
use Rattle.std.specs.Prelude.{◌≡◌, ◌⊎◌, ℕ, zero, suc, ◌+◌, ◌<◌, ◌≤◌, ◌==◌, nat_le, Bool, true, false, cond, not, List, [], ◌∷◌, map, length, refl}
use Rattle.std.proofs.Common.{sym, ◌∙◌, ap, subst, inl, inr, arith, ⊎_elim, add-one}
use Rattle.std.proofs.lemmas.Bool.{eqb-true, eq-eqb, false≢true, leb-true, leb-false}
use Rattle.std.proofs.lemmas.List.{length-map}
use Rattle.ts_base.specs.declared.letter.Letter.{Letter}
use Rattle.ts_base.specs.declared.letter.Letter.TheVariants.{Less, Equal, Greater}
use Rattle.ts_regex.specs.Shape.{Shape}
use Rattle.ts_regex.specs.Derivative.{has_word}
use Rattle.ts_regex.specs.NormalForm.{residual, same_shape}
use Rattle.ts_regex.proofs.Laws.{same_law}
use Rattle.ts_pattern.specs.Entries.{shapes}
use Rattle.ts_pattern.specs.Plans.{shape_at}
use Rattle.ts_pattern.proofs.CallerLemmas.{NextAgrees, WordsAgree, SameAgrees}
use Rattle.ts_validate.specs.declared.knowledge.Knowledge.{Knowledge}
use Rattle.ts_validate.specs.Numbers.{number_of, next_number, known_of, table_of, known_at, next_on, numbers}

-- the number of a residual is that of its least place

number_at : (rs : List Shape) (r : Shape) → number_of rs r < length rs → shape_at rs (number_of rs r) ≡ r
number_at [] r q = absurd (omega (arith, q))
number_at (s ∷ rs) r q = go (same_shape s r) refl (number_at rs r) q
  where
    one_on : (n : ℕ) → shape_at rs n ≡ r → shape_at (s ∷ rs) (n + 1) ≡ r
    one_on n h = ap (λ z. shape_at (s ∷ rs) z) (add-one n) ∙ h

    go : (b : Bool) → same_shape s r ≡ b → (number_of rs r < length rs → shape_at rs (number_of rs r) ≡ r) → cond b 0 (number_of rs r + 1) < length (s ∷ rs) →
        shape_at (s ∷ rs) (cond b 0 (number_of rs r + 1)) ≡ r
    go true e h q = (same_law s r).0 e
    go false e h q = one_on (number_of rs r) (h (omega (arith, q)))

number_small : (rs : List Shape) (i : ℕ) → i < length rs → number_of rs (shape_at rs i) ≤ i
number_small [] i q = absurd (omega (arith, q))
number_small (s ∷ rs) zero q = go (same_shape s s) ((same_law s s).1 refl)
  where
    go : (b : Bool) → b ≡ true → cond b 0 (number_of rs s + 1) ≤ 0
    go true e = omega arith
    go false e = absurd (false≢true e)
number_small (s ∷ rs) (suc i) q = go (same_shape s (shape_at rs i)) (number_small rs i (omega (arith, q)))
  where
    go : (b : Bool) → number_of rs (shape_at rs i) ≤ i → cond b 0 (number_of rs (shape_at rs i) + 1) ≤ suc i
    go true h = omega arith
    go false h = omega (arith, h)

number_bound : (rs : List Shape) (r : Shape) → (number_of rs r < length rs) ⊎ (number_of rs r ≡ length rs + 1)
number_bound [] r = inr refl
number_bound (s ∷ rs) r = go (same_shape s r) (number_bound rs r)
  where
    go : (b : Bool) → (number_of rs r < length rs) ⊎ (number_of rs r ≡ length rs + 1) →
        (cond b 0 (number_of rs r + 1) < suc (length rs)) ⊎ (cond b 0 (number_of rs r + 1) ≡ suc (length rs) + 1)
    go true h = inl (omega arith)
    go false h = ⊎_elim (λ q. inl (omega (arith, q))) (λ q. inr (omega (arith, q))) h

-- the table

map_place : (all rs : List Shape) (i : ℕ) → i < length rs → known_at (map (λ r. known_of all r) rs) i ≡ known_of all (shape_at rs i)
map_place all [] i q = absurd (omega (arith, q))
map_place all (r ∷ rs) zero q = refl
map_place all (r ∷ rs) (suc i) q = map_place all rs i (omega (arith, q))

known_is : (rs : List Shape) (i : ℕ) → i < length rs → known_at (table_of rs) i ≡ known_of rs (shape_at rs i)
known_is rs i q = map_place rs rs i q

next_on_known : (rs : List Shape) (l : Letter) (r : Shape) → next_on l (known_of rs r) ≡ next_number rs r l
next_on_known rs Less r = refl
next_on_known rs Equal r = refl
next_on_known rs Greater r = refl

next_is : (rs : List Shape) (i : ℕ) (l : Letter) → i < length rs → next_on l (known_at (table_of rs) i) ≡ next_number rs (shape_at rs i) l
next_is rs i l q = ap (λ k. next_on l k) (known_is rs i q) ∙ next_on_known rs l (shape_at rs i)

-- a number of a residual
abbrev pub IsListedNumber : List Shape → ℕ → Type 0
IsListedNumber rs i = i < length rs

bools_same : (a b : Bool) → (a ≡ true → b ≡ true) → (b ≡ true → a ≡ true) → a ≡ b
bools_same true b f g = sym (f refl)
bools_same false true f g = g refl
bools_same false false f g = refl

pub numbers_same : (rs : List Shape) → SameAgrees (numbers (table_of rs)) shapes (λ i. shape_at rs i) (λ i. IsListedNumber rs i)
numbers_same rs i j p q =
    ap (λ z. z.own == (known_at (table_of rs) j).own) (known_is rs i p) ∙ ap (λ z. number_of rs (shape_at rs i) == z.own) (known_is rs j q)
    ∙ bools_same (number_of rs (shape_at rs i) == number_of rs (shape_at rs j)) (same_shape (shape_at rs i) (shape_at rs j))
    (λ e. (same_law (shape_at rs i) (shape_at rs j)).1 (
    sym (number_at rs (shape_at rs i) (let h = number_small rs i p in omega arith))
    ∙ ap (λ z. shape_at rs z) (eqb-true (number_of rs (shape_at rs i)) (number_of rs (shape_at rs j)) e)
    ∙ number_at rs (shape_at rs j) (let h = number_small rs j q in omega arith)))
    (λ e. eq-eqb (number_of rs (shape_at rs i)) (number_of rs (shape_at rs j)) (ap (λ z. number_of rs z) ((same_law (shape_at rs i) (shape_at rs j)).0 e)))

-- after the letter

next_cases : (rs : List Shape) (r : Shape) → (b : Bool) → has_word r ≡ b → cond b (number_of rs r) (length rs) ≤ length rs →
    (not (cond b (number_of rs r) (length rs) == length rs) ≡ b) × ((b ≡ true) → shape_at rs (cond b (number_of rs r) (length rs)) ≡ r)
    × ((b ≡ true) → cond b (number_of rs r) (length rs) < length rs)
next_cases rs r false e q = (ap (λ z. not z) (eq-eqb (length rs) (length rs) refl), λ h. absurd (false≢true h), λ h. absurd (false≢true h))
next_cases rs r true e q =
    ⊎_elim
    (λ h. (not_equal (number_of rs r) (length rs) h, λ i. number_at rs r h, λ i. h))
    (λ h. absurd (omega (arith, h, q)))
    (number_bound rs r)
  where
    not_equal : (m n : ℕ) → m < n → not (m == n) ≡ true
    not_equal m n q = go (m == n) refl
      where
        go : (b : Bool) → (m == n) ≡ b → not b ≡ true
        go true e = absurd (let h = eqb-true m n e in omega (arith, q))
        go false e = refl

pub numbers_agree : (rs : List Shape) (l : Letter) (i : ℕ) → IsListedNumber rs i → nat_le (next_on l (known_at (table_of rs) i)) (length (table_of rs)) ≡ true →
    NextAgrees (numbers (table_of rs)) shapes (λ i. shape_at rs i) (λ i. IsListedNumber rs i) l i
numbers_agree rs l i p q =
    let e : next_on l (known_at (table_of rs) i) ≡ next_number rs (shape_at rs i) l = next_is rs i l p in
    let n : length (table_of rs) ≡ length rs = length-map rs (λ r. known_of rs r) in
    let r : Shape = residual (shape_at rs i) l in
    let h = next_cases rs r (has_word r) refl (subst (λ z. z ≤ length rs) e
    (subst (λ z. next_on l (known_at (table_of rs) i) ≤ z) n (leb-true (next_on l (known_at (table_of rs) i)) (length (table_of rs)) q))) in
    let has : not (next_on l (known_at (table_of rs) i) == length (table_of rs)) ≡ has_word r = ap (λ z. not (z == length (table_of rs))) e
    ∙ ap (λ z. not (next_number rs (shape_at rs i) l == z)) n ∙ h.0 in
    record {
      has = has;
      value = λ t. ap (λ z. shape_at rs z) e ∙ h.1 (sym has ∙ t);
      left = λ t. subst (λ z. z < length rs) (sym e) (h.2 (sym has ∙ t));
    }

pub words_agree : (rs : List Shape) (i : ℕ) → IsListedNumber rs i → WordsAgree (numbers (table_of rs)) shapes (λ i. shape_at rs i) i
words_agree rs i p =
    record { nullable = ap (λ (k : Knowledge). k.words.nullable) (known_is rs i p); longer = ap (λ (k : Knowledge). k.words.longer) (known_is rs i p) }

-- a residual after the letter that has a word and isn't listed
pub unlisted : (rs : List Shape) (l : Letter) (i : ℕ) → IsListedNumber rs i → nat_le (next_on l (known_at (table_of rs) i)) (length (table_of rs)) ≡ false →
    (has_word (residual (shape_at rs i) l) ≡ true) × ((j : ℕ) → j < length rs → shape_at rs j ≡ residual (shape_at rs i) l → ⊥)
unlisted rs l i p q =
    let e : next_on l (known_at (table_of rs) i) ≡ next_number rs (shape_at rs i) l = next_is rs i l p in
    let n : length (table_of rs) ≡ length rs = length-map rs (λ r. known_of rs r) in
    let r : Shape = residual (shape_at rs i) l in
    go r (has_word r) refl (sym (ap (λ z. nat_le z (length (table_of rs))) e ∙ ap (λ z. nat_le (next_number rs (shape_at rs i) l) z) n) ∙ q)
  where
    go : (r : Shape) (b : Bool) → has_word r ≡ b → nat_le (cond b (number_of rs r) (length rs)) (length rs) ≡ false →
        (has_word r ≡ true) × ((j : ℕ) → j < length rs → shape_at rs j ≡ r → ⊥)
    go r false e q = absurd (let h = leb-false (length rs) (length rs) q in omega arith)
    go r true e q = (
      e,
      λ j s h. let a = leb-false (number_of rs r) (length rs) q in
          let k : number_of rs r ≤ j = subst (λ z. number_of rs z ≤ j) h (number_small rs j s) in omega arith,
    )
