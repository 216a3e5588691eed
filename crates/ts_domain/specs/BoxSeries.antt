-- A box has one set of numbers per cell, each as its rising list; its series take each value from the set of its cell.
use Rattle.std.specs.Prelude.{◌≡◌, ◌⊎◌, ℕ, ℤ, ◌<ℤ◌, List, [], ◌∷◌, ◌++◌, length, map, take, get_or}
use Rattle.std.specs.List.{Contains, AllByRecursion, flat_map}
use Rattle.ts_domain.specs.Boxes.{HasCell, values_at, with_values}
use Rattle.ts_domain.specs.Values.{IsDomain}

-- the series is one of the box
abbrev pub InBox : List ℤ → List (List ℤ) → Type 0
InBox [] [] = Unit {0}
InBox [] (d ∷ ds) = ⊥
InBox (v ∷ vs) [] = ⊥
InBox (v ∷ vs) (d ∷ ds) = Contains d v × InBox vs ds

-- its series, in lexicographic order
unfoldable pub all_series : List (List ℤ) → List (List ℤ)
all_series [] = [] ∷ []
all_series (d ∷ ds) = flat_map (λ v. map (λ vs. v ∷ vs) (all_series ds)) d

-- lexicographic order of lists of one length
abbrev pub IsBefore : List ℤ → List ℤ → Type 0
IsBefore [] ws = ⊥
IsBefore (v ∷ vs) [] = ⊥
IsBefore (v ∷ vs) (w ∷ ws) = (v <ℤ w) ⊎ ((v ≡ w) × IsBefore vs ws)

-- each series is before the later ones
abbrev pub AreRising : List (List ℤ) → Type 0
AreRising [] = Unit {0}
AreRising (x ∷ xs) = AllByRecursion (λ y. IsBefore x y) xs × AreRising xs

-- how many they are
abbrev pub series_count : List (List ℤ) → ℕ
series_count cells = length (all_series cells)

-- each cell has a non-empty set within the limits
abbrev pub IsBox : List (List ℤ) → Type 0
IsBox cells = AllByRecursion IsDomain cells

-- the boxes so far, the present one last
pub record Boxes : Type 0 where
  pub earlier : List (List (List ℤ))
  pub present : List (List ℤ)

-- all of them in one list
abbrev pub all_boxes : Boxes → List (List (List ℤ))
all_boxes b = b.earlier ++ b.present ∷ []

-- k is the number of a cell
abbrev pub IsCell : ℕ → Boxes → Type 0
IsCell k b = HasCell k b.present

-- the set of cell k in the present box
abbrev pub cell_of : ℕ → Boxes → List ℤ
cell_of k b = values_at k b.present

-- one more box: the present one, of which cell k keeps what `keep` leaves
abbrev pub box_with : ℕ → (List ℤ → List ℤ) → Boxes → Boxes
box_with k keep b = record { earlier = all_boxes b; present = with_values k (keep (cell_of k b)) b.present }

-- back to the box at a place, counted from 0
abbrev pub back_to : ℕ → Boxes → Boxes
back_to mark b = record { earlier = take mark (all_boxes b); present = get_or (all_boxes b) mark [] }
