-- The first bad row of a text, where what holds of a row depends on the rows before it.
use Rattle.std.specs.Prelude.{◌≡◌, ℕ, ◌<◌, List, [], ◌∷◌, take, slice_get, Option, Some, None}
use Rattle.ts_token.specs.Text.{Row}

-- what is stated after rows, where each row adds to it
abbrev pub with_rows : {S : Type 0} → (S → Row → S) → S → List Row → S
with_rows with_row m [] = m
with_rows with_row m (row ∷ rows) = with_rows with_row (with_row m row) rows

-- no kind holds of any of the rows
abbrev pub AreGood : {K : Type 0} → (List Row → Row → Option K) → List Row → Type 0
AreGood kind_at rows = (i : ℕ) (row : Row) → slice_get rows i ≡ Some row → kind_at (take i rows) row ≡ None

-- the first bad row has this number, and this kind holds of it
pub record FirstBad {K : Type 0} (kind_at : List Row → Row → Option K) (rows : List Row) (line : ℕ) (kind : K)
    : Type 0 where
  pub place : ℕ
  pub row : Row
  pub is_there : slice_get rows place ≡ Some row
  pub number : row.number ≡ line
  pub kind_is : kind_at (take place rows) row ≡ Some kind
  pub first : (i : ℕ) (earlier : Row) → i < place → slice_get rows i ≡ Some earlier →
      kind_at (take i rows) earlier ≡ None
