-- What the parts of the cutter return.
use Rattle.std.specs.Prelude.{ℕ, ◌≡◌, ◌<◌, ◌+◌, ◌==◌, not, ◌++◌, Bool, List, [], ◌∷◌, length, if◌then◌else◌, Option, Some, None}
use Rattle.ts_base.specs.Words.{without_lf}
use Rattle.ts_token.specs.declared.words.NextWord.{NextWord}
use Rattle.ts_token.specs.Text.{is_blank, is_text, words_of, words_from, row_onto, Cut}
use Rattle.ts_token.specs.Views.{piece}

-- a line before an LF, without a CR at its end
abbrev pub without_cr : List ℕ → List ℕ
without_cr [] = []
without_cr (b ∷ []) = if b == 13 then [] else b ∷ []
without_cr (b ∷ c ∷ bs) = b ∷ without_cr (c ∷ bs)

abbrev pub bare_by : List ℕ → Option (List ℕ) → List ℕ
bare_by line None = line
bare_by line (Some front) = without_cr front

-- a line without its LF and a CR before that
abbrev pub without_end : List ℕ → List ℕ
without_end line = bare_by line (without_lf line)

abbrev pub is_solid : ℕ → Bool
is_solid b = not (is_blank b)

-- the first word of the bytes from a column on, and where the others stand
pub record IsNext (column : ℕ) (rest : List ℕ) (next : NextWord) : Type 0 where
  pub words : words_from column rest ≡ piece next.word ∷ words_from next.column next.rest.now
  pub place : next.column + length next.rest.now ≡ column + length rest
  pub shorter : length next.rest.now < length rest

abbrev pub with_text : Cut → List ℕ → Option ℕ → Cut
with_text c line (Some bad) = record { rows = c.rows; count = c.count + 1; not_text = Some bad }
with_text c line None =
    if is_text line
    then record { rows = c.rows ++ row_onto (c.count + 1) (words_of line) []; count = c.count + 1; not_text = None }
    else record { rows = c.rows; count = c.count + 1; not_text = Some (c.count + 1) }

-- the cut of one more line
abbrev pub with_line : Cut → List ℕ → Cut
with_line c line = with_text c line c.not_text
