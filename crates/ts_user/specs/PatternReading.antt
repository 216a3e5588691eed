-- The pattern that a text states, or its first bad line with the first kind that holds of it.
use Rattle.std.specs.Prelude.{◌≡◌, ℕ, ◌+◌, ◌==◌, Bool, false, not, ◌&&◌, List, [], ◌∷◌, ◌⊎◌, length, map, Option, Some, None, Result, Ok, Err, is_none}
use Rattle.ts_token.specs.Text.{Piece, Row, Cut, cut_of}
use Rattle.ts_token.specs.FirstBad.{AreGood, FirstBad, with_rows}
use Rattle.ts_user.specs.declared.words.Form.{Form}
use Rattle.ts_user.specs.declared.user_stop.UserKind.{UserKind}
use Rattle.ts_user.specs.declared.user_stop.UserKind.TheVariants.{NotText, UnknownLine, Shape, Expression, Number}
use Rattle.ts_user.specs.Words.{form_of}
use Rattle.ts_user.specs.Statement.{Meaning, has_shape, bad_expression_of, bad_number_of, meaning_in}
use Rattle.ts_user.specs.Stated.{Stated, nothing, with_meaning, first_kind, kinds, stated_with, Described, described, end_kinds, ended_stated}

abbrev pub texts_of : List Piece → List (List ℕ)
texts_of ws = map (λ w. w.text) ws

-- the text has one line that isn't skipped
abbrev pub is_alone : Cut → Bool
is_alone c = (length c.rows == 1) && is_none c.not_text

-- The first bad line, by one test for each kind over a line's words and what the lines before it state.

-- what is stated with what a line says, if it says something
abbrev pub with_said : Stated → Result Meaning UserKind → Stated
with_said m (Err k) = m
with_said m (Ok s) = with_meaning m s

abbrev pub with_row : Stated → Row → Stated
with_row m row = with_said m (meaning_in (texts_of row.words))

-- what lines state
abbrev pub so_far : List Row → Stated
so_far rows = with_rows with_row nothing rows

abbrev pub form_at : List (List ℕ) → Option Form
form_at [] = None
form_at (first ∷ ws) = form_of first

abbrev pub rest_at : List (List ℕ) → List (List ℕ)
rest_at [] = []
rest_at (first ∷ ws) = ws

abbrev pub bad_shape : Option Form → List (List ℕ) → Bool
bad_shape None ws = false
bad_shape (Some form) ws = not (has_shape form ws)

abbrev pub bad_expression : Option Form → List (List ℕ) → Bool
bad_expression None ws = false
bad_expression (Some form) ws = bad_expression_of form ws

abbrev pub bad_number : Option Form → List (List ℕ) → Bool
bad_number None ws = false
bad_number (Some form) ws = bad_number_of form ws

-- the kinds of a line that says something; none of another line, which one of the first four kinds holds of
abbrev pub kinds_said : Bool → Stated → Result Meaning UserKind → List (Bool × UserKind)
kinds_said alone m (Err k) = []
kinds_said alone m (Ok s) = kinds alone m s

-- the kinds in their order, each with its test of a line with these words after lines that state m
abbrev pub kinds_of : Bool → Stated → List (List ℕ) → List (Bool × UserKind)
kinds_of alone m words =
    (is_none (form_at words), UnknownLine)
    ∷ (bad_shape (form_at words) (rest_at words), Shape)
    ∷ (bad_expression (form_at words) (rest_at words), Expression)
    ∷ (bad_number (form_at words) (rest_at words), Number)
    ∷ kinds_said alone m (meaning_in words)

-- the first kind that holds of a line after these lines
abbrev pub kind_at : Bool → List Row → Row → Option UserKind
kind_at alone before row = first_kind (kinds_of alone (so_far before) (texts_of row.words))

-- the first kind that holds at the end of a text whose lines state m
abbrev pub end_kind : Stated → Option UserKind
end_kind m = first_kind (end_kinds m (described m))

-- how a text is refused of which every line of words is good: by its first line that isn't text, if there is one, else
-- by the first kind that holds at its end
abbrev pub IsEnd : Cut → Option ℕ → ℕ → UserKind → Type 0
IsEnd c (Some bad) line kind = (line ≡ bad) × (kind ≡ NotText)
IsEnd c None line kind = (line ≡ c.count + 1) × (end_kind (so_far c.rows) ≡ Some kind)

-- a text is refused at this line, with this kind
abbrev pub IsRefused : Cut → ℕ → UserKind → Type 0
IsRefused c line kind =
    FirstBad (kind_at (is_alone c)) c.rows line kind ⊎
    (AreGood (kind_at (is_alone c)) c.rows × IsEnd c c.not_text line kind)

-- a text states this pattern
abbrev pub IsPattern : Cut → Described → Type 0
IsPattern c d =
    AreGood (kind_at (is_alone c)) c.rows × (c.not_text ≡ None) × (end_kind (so_far c.rows) ≡ None)
    × (d ≡ described (so_far c.rows))

-- what a text reads as
abbrev pub IsReading : Cut → Result Described (ℕ × UserKind) → Type 0
IsReading c (Ok d) = IsPattern c d
IsReading c (Err e) = IsRefused c e.0 e.1

-- What a text reads as, by a function that goes from line to line.

abbrev pub taken_as : Bool → Stated → Result Meaning UserKind → Result Stated UserKind
taken_as alone m (Err k) = Err k
taken_as alone m (Ok s) = stated_with alone m s

abbrev pub line_gives : Bool → Stated → List (List ℕ) → Result Stated UserKind
line_gives alone m words = taken_as alone m (meaning_in words)

-- the line's number beside its kind, or on with what is stated after it
abbrev pub onward : {A : Type 0} → ℕ → Result Stated UserKind → (Stated → Result A (ℕ × UserKind)) →
    Result A (ℕ × UserKind)
onward number (Err k) next = Err (number, k)
onward number (Ok m) next = next m

-- what rows state after m, or the number of the first bad one with its first kind
abbrev pub read_rows : Bool → Stated → List Row → Result Stated (ℕ × UserKind)
read_rows alone m [] = Ok m
read_rows alone m (row ∷ rows) =
    onward row.number (line_gives alone m (texts_of row.words)) (λ after. read_rows alone after rows)

abbrev pub numbered : {A : Type 0} → ℕ → Result A UserKind → Result A (ℕ × UserKind)
numbered line (Err k) = Err (line, k)
numbered line (Ok x) = Ok x

abbrev pub ended_text : Cut → Stated → Option ℕ → Result Described (ℕ × UserKind)
ended_text c m (Some line) = Err (line, NotText)
ended_text c m None = numbered (c.count + 1) (ended_stated m)

abbrev pub end_reading : Cut → Result Stated (ℕ × UserKind) → Result Described (ℕ × UserKind)
end_reading c (Err e) = Err e
end_reading c (Ok m) = ended_text c m c.not_text

-- the pattern that the lines of a text state, or the first bad line with the first kind that holds of it
abbrev pub pattern_in : Cut → Result Described (ℕ × UserKind)
pattern_in c = end_reading c (read_rows (is_alone c) nothing c.rows)

-- what the bytes of a text read as
abbrev pub pattern_reading : List ℕ → Result Described (ℕ × UserKind)
pattern_reading bytes = pattern_in (cut_of bytes)
