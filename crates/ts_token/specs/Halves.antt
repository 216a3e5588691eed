-- A text before and after the first line whose only word is '%%'.
use Rattle.std.specs.Prelude.{ℕ, codes, Bool, false, List, [], ◌∷◌, ◌++◌, if◌then◌else◌, Option, Some, None}
use Rattle.std.specs.List.{concat}
use Rattle.std.specs.Str.{bytes_eq}
use Rattle.ts_base.specs.Words.{strict_lines}
use Rattle.ts_token.specs.Text.{lines_of, Piece, words_of}

-- the only word is '%%'
abbrev pub is_mark : List Piece → Bool
is_mark [] = false
is_mark (w ∷ []) = bytes_eq w.text (codes "%%")
is_mark (w ∷ v ∷ ws) = false

abbrev pub is_mark_line : List (List ℕ) → Bool
is_mark_line [] = false
is_mark_line (line ∷ lines) = is_mark (words_of line)

-- a line, with its end, whose only word is '%%'
unfoldable pub is_separator : List ℕ → Bool
is_separator line = is_mark_line (lines_of line)

pub record Halves : Type 0 where
  pub model : List ℕ
  pub rest : Option (List ℕ)

abbrev pub after_front : List ℕ → Halves → Halves
after_front front h = record { model = front ++ h.model; rest = h.rest }

-- the lines, with their ends, before the first separator, and those after it
abbrev pub halves : List (List ℕ) → Halves
halves [] = record { model = []; rest = None }
halves (line ∷ lines) =
    if is_separator line then record { model = []; rest = Some (concat lines) } else after_front line (halves lines)

abbrev pub halves_of : List ℕ → Halves
halves_of text = halves (strict_lines text)
