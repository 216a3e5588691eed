-- A move that joins R with the difference of both cells, of hulls in which no registers lie, and of joined ones.
-- Lemmas, no definitions: they are here since ghost members of impls cite them.
use Rattle.std.proofs.Common.{◌≡◌, ◌⊎◌, inl, inr, ℕ, ℤ, Bool, true, false, cond, not, List, [], ◌∷◌, refl, sym, ap, ◌∙◌, arith}
use Rattle.std.specs.Ordering.{int_eq}
use Rattle.std.proofs.lemmas.Int.{ints}
use Rattle.ts_sweep.specs.FrontLaws.{never_added}
use Rattle.ts_sweep.specs.Lanes.{greater_of, least, no_lanes, some_lanes}
use Rattle.ts_sweep.specs.MoveLaws.{none_is, packed_both}
use Rattle.ts_sweep.specs.Packed.{IsPacked}

module _ {X : Type 0} (lanes : X → List ℤ) (n : ℕ) (none : X) (none_lanes : lanes none ≡ no_lanes n) where
  pub none_closes : (x : X) → cond (some_lanes (lanes none)) x none ≡ none
  none_closes x = ap (λ b. cond b x none) (ap some_lanes none_lanes ∙ none_is n)

  pub closable_some : (P : Type 0) → IsPacked n (lanes none) × (some_lanes (lanes none) ≡ true → P)
  closable_some P = (inl none_lanes, λ e. never_added (sym e ∙ ap some_lanes none_lanes ∙ none_is n))

-- registers lie in joined lanes only if they lie in either
some_either : (xs ys : List ℤ) → some_lanes (greater_of xs ys) ≡ true → (some_lanes xs ≡ true) ⊎ (some_lanes ys ≡ true)
unfolding greater_of
some_either [] ys e = never_added (sym e)
some_either (x ∷ xs) [] e = never_added (sym e)
some_either (x ∷ xs) (y ∷ ys) e = go (int_eq x least) (int_eq y least) refl refl
  where
    go : (a b : Bool) → int_eq x least ≡ a → int_eq y least ≡ b →
        (not (int_eq x least) ≡ true) ⊎ (not (int_eq y least) ≡ true)
    go false b p q = inl (ap not p)
    go true false p q = inr (ap not q)
    go true true p q = grind (arith, ints)

module _ {X : Type 0} (both : X → X → X) (lanes : X → List ℤ) (n : ℕ)
    (both_lanes : (a b : X) → lanes (both a b) ≡ greater_of (lanes a) (lanes b)) where
  pub both_closable : (P : Type 0) (a b : X) → IsPacked n (lanes a) × (some_lanes (lanes a) ≡ true → P) →
      IsPacked n (lanes b) × (some_lanes (lanes b) ≡ true → P) → IsPacked n (lanes (both a b)) ×
      (some_lanes (lanes (both a b)) ≡ true → P)
  both_closable P a b p q = (
    packed_both both lanes n both_lanes a b p.0 q.0,
    λ e. elim (some_either (lanes a) (lanes b) (sym (ap some_lanes (both_lanes a b))
        ∙ e)) [ inl f ↦ p.1 f | inr f ↦ q.1 f ],
  )
