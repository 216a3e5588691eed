-- A series judged from its front: what is made so far, and what the rest will make.
use Rattle.std.proofs.Common.{◌≡◌, ℕ, ◌+◌, ℤ, Bool, true, false, IsTrue, Some, List, [], ◌∷◌, ◌++◌, drop, refl, sym, ◌∙◌, ap, append_assoc}
use Rattle.std.specs.Prelude.{◌↔◌, slice_get}
use Rattle.std.specs.List.{Contains}
use Rattle.std.proofs.lemmas.Cmp.{int_eq_equiv}
use Rattle.std.proofs.lemmas.List.{at_drop_more}
use Rattle.std.proofs.lemmas.Map.Views.{list_any-from_Contains, Contains-from_any}
use Rattle.std.proofs.lemmas.Option.{get_or_from_slice_get, slice_get_within}
use Rattle.ts_model.specs.Judgement.{is_among}
use Rattle.ts_model.proofs.MeetsLaw.{int_same}

-- one more of the values is made
pub taken : {B : Type 0} (all made more : List B) (k : ℕ) (x : B) → slice_get all k ≡ Some x → made ++ drop k all ≡ all → more ≡ made ++ x ∷ [] →
    more ++ drop (k + 1) all ≡ all
taken all made more k x e p q =
    ap (λ z. z ++ drop (k + 1) all) q
    ∙ append_assoc made (x ∷ []) (drop (k + 1) all)
    ∙ ap (λ y. made ++ y ∷ drop (k + 1) all) (sym (get_or_from_slice_get all k x x e))
    ∙ sym (at_drop_more (λ rest. made ++ rest) all k x (slice_get_within all k x e))
    ∙ p

-- a test that says whether x is one of the values says what the definition says
pub contains_is : (b : Bool) (values : List ℤ) (x : ℤ) → (IsTrue b ↔ Contains values x) → b ≡ is_among values x
contains_is true values x h = sym (list_any-from_Contains int_eq_equiv x values (h.0 refl))
contains_is false values x h = go (is_among values x) refl
  where
    go : (t : Bool) → is_among values x ≡ t → false ≡ is_among values x
    go true e = h.1 (Contains-from_any int_same x values e) ∙ sym e
    go false e = sym e
