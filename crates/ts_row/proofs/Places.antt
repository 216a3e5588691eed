-- What holds at each place of a list where one element was set.
use Rattle.std.proofs.Common.{◌≡◌, ◌<◌, ℕ, Bool, true, false, nat_eq, List, length, get_or, set, refl, sym, ap, subst, ◌∙◌}
use Rattle.std.proofs.lemmas.Bool.{eqb-true, eqb-false}
use Rattle.std.proofs.lemmas.List.{get_or-set_same, get_or-set_other}

pub at_each : {X : Type 0} (P : ℕ → X → Type 0) (old : List X) (q : ℕ) (x d : X) (new : List X) → q < length old → new ≡ set old q x → P q x →
    (p : ℕ) → ((q ≡ p → ⊥) → P p (get_or old p d)) → P p (get_or new p d)
at_each P old q x d new inside set_is here p other = go (nat_eq q p) refl
  where
    go : (b : Bool) → nat_eq q p ≡ b → P p (get_or new p d)
    go true e =
        subst (λ k. P k (get_or new k d)) (eqb-true q p e)
        (subst (P q) (sym (ap (λ z. get_or z q d) set_is ∙ get_or-set_same old q x d inside)) here)
    go false e =
        let apart = eqb-false q p e in
        subst (P p) (sym (ap (λ z. get_or z p d) set_is ∙ get_or-set_other old q p x d (λ same. apart (sym same)))) (other apart)
