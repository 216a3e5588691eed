-- A box: the values of each cell, which rise. Cells count from 1.
use Rattle.std.specs.Prelude.{ℕ, ◌-◌, ◌≤◌, ℤ, Contains, List, [], ◌∷◌, length, get_or, set}

abbrev pub Box : Type 0
Box = List (List ℤ)

-- k is the number of a cell
abbrev pub HasCell : ℕ → Box → Type 0
HasCell k b = (1 ≤ k) × (k ≤ length b)

-- the values of cell k
abbrev pub values_at : ℕ → Box → List ℤ
values_at k b = get_or b (k - 1) []

-- the box with other values in cell k
abbrev pub with_values : ℕ → List ℤ → Box → Box
with_values k values b = set b (k - 1) values

-- each cell of b has values of the same cell of m alone
abbrev pub IsInside : Box → Box → Type 0
IsInside [] [] = Unit {0}
IsInside [] (e ∷ m) = ⊥
IsInside (d ∷ b) [] = ⊥
IsInside (d ∷ b) (e ∷ m) = ((v : ℤ) → Contains d v → Contains e v) × IsInside b m
