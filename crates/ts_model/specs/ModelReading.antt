-- The model that a text states, or its first bad line with the first kind that holds of it.
use Rattle.std.specs.Prelude.{◌≡◌, ℕ, Bool, false, true, not, ◌&&◌, List, [], ◌∷◌, ◌+◌, ◌⊎◌, map, if◌then◌else◌, Option, Some, None, Result, Ok, Err, is_none}
use Rattle.ts_token.specs.Text.{Piece, Row, Cut, cut_of, rows_from, not_text_from}
use Rattle.ts_token.specs.FirstBad.{AreGood, FirstBad, with_rows}
use Rattle.ts_model.specs.declared.words.Form.{Form}
use Rattle.ts_model.specs.declared.model.Need.{Need}
use Rattle.ts_model.specs.declared.model.Need.TheVariants.{Values, List as Listing, Best}
use Rattle.ts_model.specs.declared.error.ModelKind.{ModelKind}
use Rattle.ts_model.specs.declared.error.ModelKind.TheVariants.{NotText, UnknownLine, Shape, Number, NoCells, NoObjective}
use Rattle.ts_model.specs.Words.{form_of}
use Rattle.ts_model.specs.Statement.{Meaning, has_shape, said_by, meaning_in}
use Rattle.ts_model.specs.ModelParts.{ModelParts, nothing, with_meaning, first_kind, kinds, has_cells, parts_after}

-- all domains together have a limit
abbrev pub needs_lists : Need → Bool
needs_lists Values = false
needs_lists Listing = true
needs_lists Best = true

abbrev pub needs_objective : Need → Bool
needs_objective Values = false
needs_objective Listing = false
needs_objective Best = true

abbrev pub texts_of : List Piece → List (List ℕ)
texts_of ws = map (λ w. w.text) ws

-- The first bad line, by one test for each kind over a line's words and what the lines before it state.

-- what is stated with what a line says, if it says something
abbrev pub with_said : ModelParts → Result Meaning ModelKind → ModelParts
with_said m (Err k) = m
with_said m (Ok s) = with_meaning m s

abbrev pub with_row : ModelParts → Row → ModelParts
with_row m row = with_said m (meaning_in (texts_of row.words))

-- what lines state
abbrev pub so_far : List Row → ModelParts
so_far rows = with_rows with_row nothing rows

abbrev pub form_at : List (List ℕ) → Option Form
form_at [] = None
form_at (first ∷ ws) = form_of first

abbrev pub rest_at : List (List ℕ) → List (List ℕ)
rest_at [] = []
rest_at (first ∷ ws) = ws

abbrev pub bad_shape : Option Form → List (List ℕ) → Bool
bad_shape None ws = false
bad_shape (Some form) ws = not (has_shape form ws)

abbrev pub bad_number : Option Form → List (List ℕ) → Bool
bad_number None ws = false
bad_number (Some form) ws = is_none (said_by form ws)

-- the kinds of a line that says something; none of another line, which one of the first three kinds holds of
abbrev pub kinds_said : Bool → ModelParts → Result Meaning ModelKind → List (Bool × ModelKind)
kinds_said lists m (Err k) = []
kinds_said lists m (Ok s) = kinds lists m s

-- the kinds in their order, each with its test of a line with these words after lines that state m
abbrev pub kinds_of : Bool → ModelParts → List (List ℕ) → List (Bool × ModelKind)
kinds_of lists m words =
    (is_none (form_at words), UnknownLine)
    ∷ (bad_shape (form_at words) (rest_at words), Shape)
    ∷ (bad_number (form_at words) (rest_at words), Number)
    ∷ kinds_said lists m (meaning_in words)

-- the first kind that holds of a line after these lines
abbrev pub kind_at : Bool → List Row → Row → Option ModelKind
kind_at lists before row = first_kind (kinds_of lists (so_far before) (texts_of row.words))

-- how a text is refused of which every line of words is good: by its first line that isn't text, if there is one,
-- else for want of cells, else for want of an objective that is needed
abbrev pub IsEnd : Need → Cut → Option ℕ → ℕ → ModelKind → Type 0
IsEnd need c (Some bad) line kind = (line ≡ bad) × (kind ≡ NotText)
IsEnd need c None line kind =
    ((has_cells (so_far c.rows) ≡ false) × (line ≡ c.count + 1) × (kind ≡ NoCells))
    ⊎ ((has_cells (so_far c.rows) ≡ true) × (needs_objective need ≡ true) × ((so_far c.rows).objective ≡ None)
    × (line ≡ c.count + 1) × (kind ≡ NoObjective))

-- a text is refused so
abbrev pub IsRefused : Need → Cut → ℕ → ModelKind → Type 0
IsRefused need c line kind =
    FirstBad (kind_at (needs_lists need)) c.rows line kind ⊎
    (AreGood (kind_at (needs_lists need)) c.rows × IsEnd need c c.not_text line kind)

-- a text states this model
abbrev pub IsModel : Need → Cut → ModelParts → Type 0
IsModel need c m =
    AreGood (kind_at (needs_lists need)) c.rows × (c.not_text ≡ None) × (has_cells m ≡ true) ×
    ((needs_objective need && is_none m.objective) ≡ false) × (m ≡ so_far c.rows)

-- what a text reads as
abbrev pub IsReading : Need → Cut → Result ModelParts (ℕ × ModelKind) → Type 0
IsReading need c (Ok m) = IsModel need c m
IsReading need c (Err e) = IsRefused need c e.0 e.1

-- What a text reads as, by a function that goes from line to line.

abbrev pub taken_as : Bool → ModelParts → Result Meaning ModelKind → Result ModelParts ModelKind
taken_as lists m (Err k) = Err k
taken_as lists m (Ok s) = parts_after lists m s

abbrev pub line_gives : Bool → ModelParts → List (List ℕ) → Result ModelParts ModelKind
line_gives lists m words = taken_as lists m (meaning_in words)

-- the line's number beside its kind, or on with what is stated after it
abbrev pub onward : ℕ → Result ModelParts ModelKind → (ModelParts → Result ModelParts (ℕ × ModelKind)) →
    Result ModelParts (ℕ × ModelKind)
onward number (Err k) next = Err (number, k)
onward number (Ok m) next = next m

-- what rows state after m, or the number of the first bad one with its first kind
abbrev pub read_rows : Bool → ModelParts → List Row → Result ModelParts (ℕ × ModelKind)
read_rows lists m [] = Ok m
read_rows lists m (row ∷ rows) =
    onward row.number (line_gives lists m (texts_of row.words)) (λ after. read_rows lists after rows)

-- the end of a text of so many lines, which state m
abbrev pub ended_model : Need → ℕ → ModelParts → Result ModelParts (ℕ × ModelKind)
ended_model need count m =
    if not (has_cells m) then Err (count + 1, NoCells)
    else (if needs_objective need && is_none m.objective then Err (count + 1, NoObjective)
    else Ok m)

-- on with what is stated, or a refusal stays
abbrev pub then_on : Result ModelParts (ℕ × ModelKind) → (ModelParts → Result ModelParts (ℕ × ModelKind)) →
    Result ModelParts (ℕ × ModelKind)
then_on (Err e) next = Err e
then_on (Ok m) next = next m

-- the refusal of the first line that isn't text, where there is one
abbrev pub unless_bad : Option ℕ → ModelParts → Result ModelParts (ℕ × ModelKind)
unless_bad None m = Ok m
unless_bad (Some line) m = Err (line, NotText)

-- what these lines, the first of which has this number, make of m, or the first bad one with its first kind
abbrev pub lines_from : Need → ℕ → ModelParts → List (List ℕ) → Result ModelParts (ℕ × ModelKind)
lines_from need number m lines =
    then_on (read_rows (needs_lists need) m (rows_from number lines)) (unless_bad (not_text_from number lines))

-- what the lines of a text state, or the first bad one with its first kind
abbrev pub lines_reading : Need → Cut → Result ModelParts (ℕ × ModelKind)
lines_reading need c = then_on (read_rows (needs_lists need) nothing c.rows) (unless_bad c.not_text)

-- the model that a text states, or its first bad line with its first kind, or what is missing at its end
abbrev pub reading : Need → Cut → Result ModelParts (ℕ × ModelKind)
reading need c = then_on (lines_reading need c) (ended_model need c.count)

-- what the bytes of a text read as
abbrev pub model_reading : Need → List ℕ → Result ModelParts (ℕ × ModelKind)
model_reading need bytes = reading need (cut_of bytes)
