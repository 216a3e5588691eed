-- What the lines of a tree make of a box, one rising list of values a cell. Cells count from 1.
use Rattle.std.specs.Prelude.{ℕ, ◌⊎◌, ℤ, List, [], ◌∷◌, map}
use Rattle.ts_domain.specs.BoxSeries.{InBox, IsBox}
use Rattle.ts_domain.specs.Kept.{values_up_to, values_above, values_without}
pub use Rattle.ts_domain.specs.Boxes.{Box, HasCell, values_at, with_values, IsInside}

-- the two sides of a split: the values of cell k up to t, and those above t
abbrev pub low_side : ℕ → ℤ → Box → Box
low_side k t b = with_values k (values_up_to t (values_at k b)) b

abbrev pub high_side : ℕ → ℤ → Box → Box
high_side k t b = with_values k (values_above t (values_at k b)) b

-- the box without the value v of cell k, and the box with x_k = v
abbrev pub without : ℕ → ℤ → Box → Box
without k v b = with_values k (values_without v (values_at k b)) b

abbrev pub only : ℕ → ℤ → Box → Box
only k v b = with_values k (v ∷ []) b

-- the box of the series x alone
abbrev pub box_of : List ℤ → Box
box_of x = map (λ (v : ℤ). v ∷ []) x

-- a box inside m
pub record IsPart (b m : Box) : Type 0 where
  pub box : IsBox b
  pub inside : IsInside b m

-- the series is one of some box of the list
abbrev pub InSome : List Box → List ℤ → Type 0
InSome [] x = ⊥
InSome (b ∷ w) x = InBox x b ⊎ InSome w x
