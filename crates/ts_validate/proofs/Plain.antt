-- Tests on the entries of a plan and on their plain forms.
use Rattle.std.specs.Prelude.{◌≡◌, Bool, ◌||◌, List, [], ◌∷◌, map, refl}
use Rattle.std.specs.List.{list_all, list_any}
use Rattle.std.proofs.Common.{sym, ap}
use Rattle.std.proofs.lemmas.List.Folds.{list_all-map}
use Rattle.ts_pattern.specs.Closed.{first_passes}

pub any_mapped : {A B : Type 0} (p : B → Bool) (h : A → B) (xs : List A) → list_any (λ x. p (h x)) xs ≡ list_any p (map h xs)
any_mapped p h [] = refl
any_mapped p h (x ∷ xs) = ap (λ z. p (h x) || z) (any_mapped p h xs)

pub all_mapped : {A B : Type 0} (p : B → Bool) (h : A → B) (xs : List A) → list_all (λ x. p (h x)) xs ≡ list_all p (map h xs)
all_mapped p h xs = sym (list_all-map p h xs)

pub first_mapped : {A B : Type 0} (p : B → Bool) (h : A → B) (xs : List A) → first_passes (λ x. p (h x)) xs ≡ first_passes p (map h xs)
first_mapped p h [] = refl
first_mapped p h (x ∷ xs) = refl
