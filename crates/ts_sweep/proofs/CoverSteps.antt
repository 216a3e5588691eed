-- The cover of a column is the total of its hulls: each of them changes nothing where it is joined to it.
use Rattle.std.proofs.Common.{◌≡◌, ℕ, zero, suc, ◌+◌, ◌<◌, ◌⊎◌, inl, inr, true, sym, ap, ◌∙◌, arith}
use Rattle.ts_sweep.specs.Sweeps.{total}

below_same_or : (a b : ℕ) → a < b + 1 → (a < b) ⊎ (a ≡ b)
below_same_or a b h = grind arith

module _ {X : Type 0} (both : X → X → X) (none : X) (h : ℕ → X) where
  pub covers_nothing : (all : X) → all ≡ none → all ≡ total both none (λ i. true) h 0
  unfolding total
  covers_nothing all is = is

  pub covers_more : (k : ℕ) (all more : X) → all ≡ total both none (λ i. true) h k → more ≡ both all (h k) →
      more ≡ total both none (λ i. true) h (k + 1)
  unfolding total
  covers_more k all more before is =
      let next : suc k ≡ k + 1 = omega arith in
      is ∙ ap (λ x. both x (h k)) before ∙ ap (total both none (λ i. true) h) next

  pub covers_all : (k n : ℕ) (all : X) → all ≡ total both none (λ i. true) h k → k ≡ n → all ≡ total both none (λ i. true) h n
  covers_all k n all is same = is ∙ ap (total both none (λ i. true) h) same

module _ {X : Type 0} (both : X → X → X) (none : X) (assoc : (a b c : X) → both (both a b) c ≡ both a (both b c)) (comm : (a b : X) → both a b ≡ both b a)
    (idem : (a : X) → both a a ≡ a) (h : ℕ → X) where
  -- a hull joined to the cover changes nothing
  pub covered : (n i : ℕ) → i < n → both (total both none (λ i. true) h n) (h i) ≡ total both none (λ i. true) h n
  unfolding total
  covered zero i lt = absurd (omega (arith, lt))
  covered (suc n) i lt =
      let all = total both none (λ i. true) h n in
      let before : i < n → both all (h i) ≡ all = λ less. covered n i less in
      elim (below_same_or i n (omega (arith, lt))) [
        | inl less ↦ assoc all (h n) (h i) ∙ ap (both all) (comm (h n) (h i)) ∙ sym (assoc all (h i) (h n)) ∙ ap (λ z. both z (h n)) (before less)
        | inr same ↦ ap (λ j. both (both all (h n)) (h j)) same ∙ assoc all (h n) (h n) ∙ ap (both all) (idem (h n))
      ]
