-- Rows one after another in one list, and where each begins.
use Rattle.std.specs.Prelude.{◌≡◌, ℕ, zero, suc, ◌+◌, ◌-◌, ◌≤◌, List, [], ◌∷◌, ◌++◌, length, take, drop, get_or, slice_range}
use Rattle.std.specs.Prelude.{replicate, Option, None, Some}
use Rattle.ts_base.specs.declared.range.Range.{Range}

-- k is the number of a cell, counted from 1, that has a row
abbrev pub IsRow : {X : Type 0} → ℕ → List (List X) → Type 0
IsRow k rows = (1 ≤ k) × (k ≤ length rows)

-- the row of cell k
abbrev pub row_at : {X : Type 0} → ℕ → List (List X) → List X
row_at k rows = get_or rows (k - 1) []

-- a row for each of n cells: those of the cells that are looked at, and an empty one for each cell outside the window
abbrev pub windowed : {X : Type 0} → Option Range → ℕ → List (List X) → List (List X)
windowed None n rows = rows
windowed (Some w) n rows = replicate (w.first - 1) [] ++ (rows ++ replicate (n - w.last) [])

unfoldable pub concat_rows : {X : Type 0} → List (List X) → List X
concat_rows [] = []
concat_rows (row ∷ rows) = row ++ concat_rows rows

-- where row i, counted from 0, begins in the list of all
unfoldable pub place : {X : Type 0} → List (List X) → ℕ → ℕ
place [] i = 0
place (row ∷ rows) zero = 0
place (row ∷ rows) (suc i) = length row + place rows i

-- a list cut into rows that are as long as those given
unfoldable pub cut_like : {X : Type 0} → List (List X) → List X → List (List X)
cut_like [] xs = []
cut_like (row ∷ rows) xs = take (length row) xs ∷ cut_like rows (drop (length row) xs)

-- xs with ws over it from place i on
abbrev pub written_over : {X : Type 0} → List X → ℕ → List X → List X
written_over xs i ws = take i xs ++ (ws ++ drop (length ws) (drop i xs))

-- xs with us over it from its first place on, cut to the length of xs
abbrev pub refill : {X : Type 0} → List X → List X → List X
refill xs us = take (length xs) (us ++ drop (length us) xs)

-- the rows after ws was written over them from the begin of row i on; each row keeps its length
unfoldable pub with_written : {X : Type 0} → List (List X) → ℕ → List X → List (List X)
with_written rows i ws = cut_like rows (refill (concat_rows rows) (written_over (concat_rows rows) (place rows i) ws))

-- the rows that begin at the starts and end where the next begins
unfoldable pub rows_from : {X : Type 0} → ℕ → List ℕ → List X → List (List X)
rows_from from [] xs = []
rows_from from (to ∷ ends) xs = slice_range xs from to ∷ rows_from to ends xs

unfoldable pub rows_of : {X : Type 0} → List ℕ → List X → List (List X)
rows_of [] xs = []
rows_of (from ∷ ends) xs = rows_from from ends xs

-- each end is at least the one before, and the last is the length
unfoldable pub Ends : ℕ → List ℕ → ℕ → Type 0
Ends from [] len = from ≡ len
Ends from (to ∷ ends) len = (from ≤ to) × Ends to ends len

-- the starts of the rows, with the end of the last: from 0 on, in order, up to the length
unfoldable pub Starts : List ℕ → ℕ → Type 0
Starts [] len = ⊥
Starts (from ∷ ends) len = (from ≡ 0) × Ends from ends len
