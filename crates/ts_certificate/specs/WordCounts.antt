-- Exactly so many words after the first.
use Rattle.std.specs.Prelude.{ℕ, List, [], ◌∷◌, Option, Some, None}
use Rattle.std.specs.Option.{option_map}

abbrev pub one_of : List (List ℕ) → Option (List ℕ)
one_of [] = None
one_of (a ∷ []) = Some a
one_of (a ∷ b ∷ ws) = None

abbrev pub two_of : List (List ℕ) → Option (List ℕ × List ℕ)
two_of [] = None
two_of (a ∷ ws) = option_map (λ (b : List ℕ). (a, b)) (one_of ws)

abbrev pub three_of : List (List ℕ) → Option (List ℕ × List ℕ × List ℕ)
three_of [] = None
three_of (a ∷ ws) = option_map (λ (p : List ℕ × List ℕ). (a, p.0, p.1)) (two_of ws)

-- the value, where no word is left
abbrev pub if_alone : {X : Type 0} → X → List (List ℕ) → Option X
if_alone x [] = Some x
if_alone x (w ∷ ws) = None
