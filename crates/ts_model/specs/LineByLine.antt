-- The reading of a text line by line.
use Rattle.std.specs.Prelude.{ℕ, ◌≡◌, ◌+◌, ◌<◌, ◌++◌, List, [], ◌∷◌, length, Result, Ok, Err}
use Rattle.ts_base.specs.Limits.{too_many}
use Rattle.ts_token.specs.Gist.{AreEnded, IsLine, StandsFor}
use Rattle.ts_token.specs.Text.{lines_of, cut_of}
use Rattle.ts_model.specs.declared.error.ModelKind.{ModelKind}
use Rattle.ts_model.specs.declared.error.ModelStop.{ModelStop}
use Rattle.ts_model.specs.declared.error.ModelStop.TheVariants.{Refused, Memory}
use Rattle.ts_model.specs.declared.model.Need.{Need}
use Rattle.ts_model.specs.ModelReading.{lines_from, lines_reading}
use Rattle.ts_model.specs.ModelParts.{ModelParts}

-- what this line, given without its end, makes of m, or its first kind
abbrev pub line_step : Need → ℕ → ModelParts → List ℕ → Result ModelParts (ℕ × ModelKind)
line_step need number m line = lines_from need number m (line ∷ [])

-- what the lines so far state, none of them bad
pub record SoFar : Type 0 where
  pub need : Need
  pub count : ℕ
  pub stated : ModelParts

-- exactly the lines of this text are read: so many, and what they state, or the first bad one with its first kind
abbrev pub HasRead : Need → List ℕ → Result SoFar ModelStop → Type 0
HasRead need text (Ok s) =
    (s.need ≡ need) × (s.count ≡ length (lines_of text)) × (lines_reading need (cut_of text) ≡ Ok s.stated)
HasRead need text (Err (Refused line kind)) = lines_reading need (cut_of text) ≡ Err (line, kind)
HasRead need text (Err Memory) = ⊥

-- how many lines were read; after a stop none is counted
abbrev pub lines_read : Result SoFar ModelStop → ℕ
lines_read (Ok s) = s.count
lines_read (Err stop) = 0

-- one line more may be counted
abbrev pub HasRoom : Result SoFar ModelStop → Type 0
HasRoom reader = lines_read reader + 1 < too_many

-- whatever whole lines were read before, a line that these bytes stand for has been read too
abbrev pub ReadsLine : Result SoFar ModelStop → List ℕ → Result SoFar ModelStop → Type 0
ReadsLine old given new =
    (need : Need) (text line : List ℕ) → AreEnded text → IsLine line → StandsFor given line →
    HasRead need text old → HasRead need (text ++ line) new
