-- The boxes that wait for their line in a branch tree, and what a call makes of the next one.
use Rattle.std.specs.Prelude.{ℕ, ℤ, Bool, true, false, List, [], ◌∷◌}
use Rattle.ts_filter.specs.Boxes.{Box, low_side, high_side, without}

-- the waiting boxes, the next one first; ready: the next one is the present one
pub record Waiting : Type 0 where
  pub ready : Bool
  pub boxes : List Box

-- the next box; where none waits, one without cells
abbrev pub first : List Box → Box
first [] = []
first (b ∷ bs) = b

abbrev pub rest : List Box → List Box
rest [] = []
rest (b ∷ bs) = bs

-- the next box gives way to its two sides, the lower one first
abbrev pub after_split : ℕ → ℤ → Waiting → Waiting
after_split k t w = record {
  ready = true;
  boxes = low_side k t (first w.boxes) ∷ high_side k t (first w.boxes) ∷ rest w.boxes;
}

-- the next box loses a value
abbrev pub after_remove : ℕ → ℤ → Waiting → Waiting
after_remove k v w = record { ready = true; boxes = without k v (first w.boxes) ∷ rest w.boxes }

-- the next box is done
abbrev pub after_close : Waiting → Waiting
after_close w = record { ready = false; boxes = rest w.boxes }
