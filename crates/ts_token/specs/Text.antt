-- A text as lines and words, over lists of bytes.
use Rattle.std.specs.Prelude.{ℕ, ◌+◌, ◌==◌, Bool, true, false, List, [], ◌∷◌, length, if◌then◌else◌, nat_le, Option, Some, None}
use Rattle.std.specs.List.{list_all}
use Rattle.ts_base.specs.Words.{is_lf, onto_line}

unfoldable pub is_blank : ℕ → Bool
is_blank b = if b == 32 then true else b == 9

-- printable ASCII, or a tab
unfoldable pub is_plain : ℕ → Bool
is_plain b = if nat_le 32 b then nat_le b 126 else b == 9

-- the bytes begin with an LF
abbrev pub ends_here : List ℕ → Bool
ends_here [] = false
ends_here (b ∷ bs) = is_lf b

-- the lines without their ends: a line ends at each LF, and a CR directly before it belongs to the end
abbrev pub lines_of : List ℕ → List (List ℕ)
lines_of [] = []
lines_of (b ∷ bs) =
    if is_lf b then [] ∷ lines_of bs
    else (if (if b == 13 then ends_here bs else false) then lines_of bs
    else onto_line b (lines_of bs))

abbrev pub is_text : List ℕ → Bool
is_text line = list_all is_plain line

-- a word, and the number of bytes before it in its line plus 1
pub record Piece : Type 0 where
  pub text : List ℕ
  pub column : ℕ

-- a word goes no further
abbrev pub stops_here : List ℕ → Bool
stops_here [] = true
stops_here (b ∷ bs) = is_blank b

-- the byte in this column joins the first word
abbrev pub onto_word : ℕ → ℕ → List Piece → List Piece
onto_word b column [] = []
onto_word b column (word ∷ words) = record { text = b ∷ word.text; column = column } ∷ words

-- the words of a line, whose bytes stand from a column on
abbrev pub words_from : ℕ → List ℕ → List Piece
words_from column [] = []
words_from column (b ∷ bs) =
    if is_blank b then words_from (column + 1) bs
    else (if stops_here bs then record { text = b ∷ []; column = column } ∷ words_from (column + 1) bs
    else onto_word b column (words_from (column + 1) bs))

abbrev pub words_of : List ℕ → List Piece
words_of line = words_from 1 line

abbrev pub starts_hash : List ℕ → Bool
starts_hash [] = false
starts_hash (b ∷ bs) = b == 35

-- a line without words, or one whose first word begins with '#'
abbrev pub is_skipped : List Piece → Bool
is_skipped [] = true
is_skipped (word ∷ words) = starts_hash word.text

-- a line by its number, with its words
pub record Row : Type 0 where
  pub number : ℕ
  pub words : List Piece

-- the row of a line that is not skipped
abbrev pub row_onto : ℕ → List Piece → List Row → List Row
row_onto number words rows = if is_skipped words then rows else record { number = number; words = words } ∷ rows

-- the unskipped lines before the first that isn't text, where the first line has this number
abbrev pub rows_from : ℕ → List (List ℕ) → List Row
rows_from number [] = []
rows_from number (line ∷ lines) =
    if is_text line then row_onto number (words_of line) (rows_from (number + 1) lines) else []

-- the number of the first line that isn't text
abbrev pub not_text_from : ℕ → List (List ℕ) → Option ℕ
not_text_from number [] = None
not_text_from number (line ∷ lines) = if is_text line then not_text_from (number + 1) lines else Some number

-- a text cut into lines and words
pub record Cut : Type 0 where
  pub rows : List Row
  pub count : ℕ
  pub not_text : Option ℕ

abbrev pub cut_of : List ℕ → Cut
cut_of text = record {
  rows = rows_from 1 (lines_of text);
  count = length (lines_of text);
  not_text = not_text_from 1 (lines_of text);
}
