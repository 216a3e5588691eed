-- What holds of some element of a list, and of the first one, by recursion on the list.
use Rattle.std.specs.Prelude.{◌⊎◌, List, [], ◌∷◌}

abbrev pub OneOf : {A : Type 0} → (A → Type 0) → List A → Type 0
OneOf p [] = ⊥
OneOf p (e ∷ es) = p e ⊎ OneOf p es

abbrev pub First : {A : Type 0} → (A → Type 0) → List A → Type 0
First p [] = ⊥
First p (e ∷ es) = p e
