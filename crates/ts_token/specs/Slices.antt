-- Each word of a text is the part of the text at its line and column.
use Rattle.std.specs.Prelude.{ℕ, zero, suc, ◌≡◌, ◌-◌, List, [], ◌∷◌, length, take, drop, if◌then◌else◌}
use Rattle.std.specs.List.{AllByRecursion}
use Rattle.ts_base.specs.Words.{is_lf}
use Rattle.ts_token.specs.Text.{Piece, Row}

-- the bytes after the first LF
abbrev pub after_lf : List ℕ → List ℕ
after_lf [] = []
after_lf (b ∷ bs) = if is_lf b then bs else after_lf bs

-- the bytes after the first LFs, as many as that
abbrev pub past_lines : ℕ → List ℕ → List ℕ
past_lines zero text = text
past_lines (suc n) text = after_lf (past_lines n text)

-- the word is what stands in the text at its column of the line with this number
abbrev pub IsSlice : List ℕ → ℕ → Piece → Type 0
IsSlice text number word = word.text ≡ take (length word.text) (drop (word.column - 1) (past_lines (number - 1) text))

abbrev pub AreSlices : List ℕ → List Row → Type 0
AreSlices text rows = AllByRecursion (λ row. AllByRecursion (IsSlice text row.number) row.words) rows
