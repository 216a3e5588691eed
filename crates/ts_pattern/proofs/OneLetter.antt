-- How the occurrences change when one letter is read, for any language.
-- Let E be the starts of the matches that end at the new letter. Where E is empty the occurrences stay
-- (`none_up`, `none_down`); else the match from the least member of E is an occurrence (`some_last`), those that
-- start before it stay (`some_up`), and there are no others (`some_down`).
use Rattle.std.specs.Prelude.{◌≡◌, ◌⊎◌, ℕ, ◌+◌, ◌-◌, ◌<◌, ◌≤◌, List, [], ◌∷◌, ◌++◌, length, take, drop, slice_range}
use Rattle.std.proofs.Common.{sym, ◌∙◌, ap, subst, inl, inr, arith, length-append, length-drop, ⊎_elim}
use Rattle.std.proofs.Math.Nat.{eq-or-lt_of_le}
use Rattle.std.proofs.lemmas.List.{take-append-le, drop-append-le}
use Rattle.ts_base.specs.declared.letter.Letter.{Letter}
use Rattle.ts_regex.specs.Shape.{Shape}
use Rattle.ts_regex.specs.Language.{InLanguage}
use Rattle.ts_pattern.specs.Occurrences.{IsMatch, IsOccurrence}

slice_append : (w : List Letter) (l : Letter) (s e : ℕ) → s < e → e ≤ length w → slice_range (w ++ l ∷ []) s e ≡ slice_range w s e
slice_append w l s e p q =
    ap (λ v. take (e - s) v) (drop-append-le s w (l ∷ []) (omega arith))
    ∙ take-append-le (e - s) (drop s w) (l ∷ []) (let n = length-drop s w in omega arith)

match_up : (p : Shape) (w : List Letter) (l : Letter) (s e : ℕ) → IsMatch p w s e → IsMatch p (w ++ l ∷ []) s e
match_up p w l s e m =
    let n = length-append w (l ∷ []) in
    record { some = m.some; inside = (let i = m.inside in omega arith); word = subst (λ v. InLanguage p v) (sym (slice_append w l s e m.some m.inside)) m.word }

match_down : (p : Shape) (w : List Letter) (l : Letter) (s e : ℕ) → e ≤ length w → IsMatch p (w ++ l ∷ []) s e → IsMatch p w s e
match_down p w l s e q m =
    record { some = m.some; inside = q; word = subst (λ v. InLanguage p v) (slice_append w l s e m.some q) m.word }

-- no match of the longer word ends at its last sign
abbrev pub NoneEnds : Shape → List Letter → Letter → Type 0
NoneEnds p w l = (s : ℕ) → IsMatch p (w ++ l ∷ []) s (length w + 1) → ⊥

-- m is the least start of a match that ends at the last sign
pub record IsLeastStart (p : Shape) (w : List Letter) (l : Letter) (m : ℕ) : Type 0 where
  pub is : IsMatch p (w ++ l ∷ []) m (length w + 1)
  pub least : (s : ℕ) → IsMatch p (w ++ l ∷ []) s (length w + 1) → m ≤ s

-- a match of the longer word is one of the word, or ends at the last sign
old_or_last : (p : Shape) (w : List Letter) (l : Letter) (s e : ℕ) → IsMatch p (w ++ l ∷ []) s e → (e ≤ length w) ⊎ (e ≡ length w + 1)
old_or_last p w l s e m =
    let n = length-append w (l ∷ []) in
    let i = m.inside in
    let j : e ≤ length w + 1 = omega arith in
    ⊎_elim (λ q. inr q) (λ q. inl (omega arith)) (eq-or-lt_of_le j)

pub none_up : (p : Shape) (w : List Letter) (l : Letter) → NoneEnds p w l → (s e : ℕ) → IsOccurrence p w s e → IsOccurrence p (w ++ l ∷ []) s e
none_up p w l nil s e o =
    record {
      is = match_up p w l s e o.is;
      maximal = λ s' e' m a b. ⊎_elim
          (λ q. o.maximal s' e' (match_down p w l s' e' q m) a b)
          (λ q. absurd (nil s' (subst (λ x. IsMatch p (w ++ l ∷ []) s' x) q m)))
          (old_or_last p w l s' e' m);
    }

pub none_down : (p : Shape) (w : List Letter) (l : Letter) → NoneEnds p w l → (s e : ℕ) → IsOccurrence p (w ++ l ∷ []) s e → IsOccurrence p w s e
none_down p w l nil s e o =
    record {
      is = ⊎_elim
          (λ q. match_down p w l s e q o.is)
          (λ q. absurd (nil s (subst (λ x. IsMatch p (w ++ l ∷ []) s x) q o.is)))
          (old_or_last p w l s e o.is);
      maximal = λ s' e' m a b. o.maximal s' e' (match_up p w l s' e' m) a b;
    }

-- the match from the least start is an occurrence
pub some_last : (p : Shape) (w : List Letter) (l : Letter) (m : ℕ) → IsLeastStart p w l m → IsOccurrence p (w ++ l ∷ []) m (length w + 1)
some_last p w l m h =
    record {
      is = h.is;
      maximal = λ s' e' x a b.
          let n = length-append w (l ∷ []) in
          let i = x.inside in
          let q : e' ≡ length w + 1 = omega arith in
          let k = h.least s' (subst (λ y. IsMatch p (w ++ l ∷ []) s' y) q x) in
          (omega arith, q);
    }

-- an occurrence that begins before it stays one
pub some_up : (p : Shape) (w : List Letter) (l : Letter) (m : ℕ) → IsLeastStart p w l m → (s e : ℕ) → s < m → IsOccurrence p w s e →
    IsOccurrence p (w ++ l ∷ []) s e
some_up p w l m h s e c o =
    record {
      is = match_up p w l s e o.is;
      maximal = λ s' e' x a b. ⊎_elim
          (λ q. o.maximal s' e' (match_down p w l s' e' q x) a b)
          (λ q. absurd (let k = h.least s' (subst (λ y. IsMatch p (w ++ l ∷ []) s' y) q x) in omega arith))
          (old_or_last p w l s' e' x);
    }

-- each other occurrence of the longer word is one of the word, and begins before it
pub some_down : (p : Shape) (w : List Letter) (l : Letter) (m : ℕ) → IsLeastStart p w l m → (s e : ℕ) → IsOccurrence p (w ++ l ∷ []) s e →
    ((s ≡ m) × (e ≡ length w + 1)) ⊎ ((s < m) × IsOccurrence p w s e)
some_down p w l m h s e o =
    ⊎_elim
    (λ q. inr (
      (let n : (m ≤ s) → ⊥ = λ z. (let y = o.maximal m (length w + 1) h.is z (omega arith) in let y1 = y.1 in omega arith) in before m s n),
      record { is = match_down p w l s e q o.is; maximal = λ s' e' x a b. o.maximal s' e' (match_up p w l s' e' x) a b },
    ))
    (λ q. inl (let k = h.least s (subst (λ y. IsMatch p (w ++ l ∷ []) s y) q o.is) in let y = o.maximal m (length w + 1) h.is k (omega arith) in
    let y0 = y.0 in (omega arith, q)))
    (old_or_last p w l s e o.is)
  where
    before : (m s : ℕ) → ((m ≤ s) → ⊥) → s < m
    before m s n = omega arith
