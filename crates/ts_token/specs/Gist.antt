-- What of a line its reader may ask for: whether it is text, whether it is skipped, and the first bytes of its words.
use Rattle.std.specs.Prelude.{ℕ, ◌≡◌, ◌++◌, List, [], ◌∷◌, map, take, if◌then◌else◌, Option, Some, None}
use Rattle.ts_token.specs.Text.{lines_of, is_text, Piece, words_of, is_skipped}

-- no more bytes of a word are kept; no number, name or other word of a text is as long
abbrev pub most_kept : ℕ
most_kept = 64

-- the words, without the bytes of which no more are kept
abbrev pub heads : List Piece → List (List ℕ)
heads ws = map (λ w. take most_kept w.text) ws

-- of a line without its end: None where it isn't text, no words where it is skipped
abbrev pub gist : List ℕ → Option (List (List ℕ))
gist line = if is_text line then Some (if is_skipped (words_of line) then [] else heads (words_of line)) else None

-- the gist of each line of a text
abbrev pub gists : List ℕ → List (Option (List (List ℕ)))
gists text = map gist (lines_of text)

abbrev pub first_of : List (List ℕ) → List ℕ
first_of [] = []
first_of (line ∷ lines) = line

-- a line without its end, which it may lack
abbrev pub without_end : List ℕ → List ℕ
without_end line = first_of (lines_of line)

-- a reader finds the same in these bytes as in the line
abbrev pub StandsFor : List ℕ → List ℕ → Type 0
StandsFor given line = gists given ≡ gists line

-- one line, with its LF or without
abbrev pub IsLine : List ℕ → Type 0
IsLine line = lines_of line ≡ without_end line ∷ []

-- whatever follows, these bytes are whole lines
abbrev pub AreEnded : List ℕ → Type 0
AreEnded text = (more : List ℕ) → lines_of (text ++ more) ≡ lines_of text ++ lines_of more
