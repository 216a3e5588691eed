-- The text of a model that comes in parts of lines: what is known of the bytes so far, up to the line `%%`.
use Rattle.std.specs.Prelude.{◌≡◌, ℕ, ◌+◌, ◌<◌, Bool, true, false, not, List, [], ◌++◌, length, filter, is_some, Option, Some, None, MatchOption, Result}
use Rattle.std.specs.List.{concat, list_all}
use Rattle.ts_base.specs.Limits.{too_many}
use Rattle.ts_base.specs.Words.{is_lf, strict_lines, without_lf}
use Rattle.ts_token.specs.Gist.{AreEnded, IsLine}
use Rattle.ts_token.specs.Halves.{after_front, halves_of, is_separator}
use Rattle.ts_token.specs.Short.{IsShort}
use Rattle.ts_model.specs.declared.error.ModelStop.{ModelStop}
use Rattle.ts_model.specs.declared.model.Model.{Model}
use Rattle.ts_model.specs.declared.model.Need.{Need}
use Rattle.ts_model.specs.declared.model_text.ModelText.{ModelText}
use Rattle.ts_model.specs.LineByLine.{HasRead, SoFar}
use Rattle.ts_model.specs.ModelReading.{model_reading}
use Rattle.ts_model.specs.Views.{Reads}

-- none of the bytes is an LF
abbrev pub IsUnfinished : List ℕ → Type 0
IsUnfinished line = list_all (λ b. not (is_lf b)) line ≡ true

-- only the last byte is an LF
abbrev pub IsFinished : List ℕ → Type 0
IsFinished line = (bare : List ℕ) × (without_lf line ≡ Some bare) × IsUnfinished bare

-- no byte before the last is an LF
abbrev pub IsPart : List ℕ → Type 0
IsPart part = MatchOption (without_lf part) (IsUnfinished part) IsUnfinished

-- a line that ends with its LF
abbrev pub has_lf : List ℕ → Bool
has_lf line = is_some (without_lf line)

-- the text up to its last LF
abbrev pub whole_lines : List ℕ → List ℕ
whole_lines text = concat (filter has_lf (strict_lines text))

-- whatever follows, these bytes are whole lines
abbrev pub AreWhole : List ℕ → Type 0
AreWhole front = (more : List ℕ) → whole_lines (front ++ more) ≡ front ++ whole_lines more

-- whatever follows, these bytes are whole lines of the model
abbrev pub AreOfModel : List ℕ → Type 0
AreOfModel front = (more : List ℕ) → halves_of (front ++ more) ≡ after_front front (halves_of more)

-- whatever follows, the model has this text and ends with these bytes
abbrev pub EndsModel : List ℕ → List ℕ → Type 0
EndsModel text front = (more : List ℕ) → halves_of (front ++ more) ≡ record { model = text; rest = Some more }

-- these lines were read, and none before the first
abbrev pub HasLines : Need → List ℕ → Option (Result SoFar ModelStop) → Type 0
HasLines need text None = text ≡ []
HasLines need text (Some reader) = HasRead need text reader

-- these lines were read, and the line that what is kept stands for may be read after them
pub record MayRead (t : ModelText) : Type 0 where
  pub text : List ℕ
  pub line : List ℕ
  pub read : HasLines t.need text t.reader
  pub short : IsShort line t.line
  pub some : 0 < length line
  pub few : length text + length line < too_many

-- whatever whole lines were read before, the line that what is kept stands for has been read too
abbrev pub ReadsOn : ModelText → ModelText → Type 0
ReadsOn old new =
    (text line : List ℕ) → AreEnded text → IsLine line → IsShort line old.line → HasLines old.need text old.reader →
    HasLines old.need (text ++ line) new.reader

-- the bytes so far are whole lines of the model, which were read, and one line, of which P holds
pub record AtLine (P : List ℕ → Type 0) (bytes : List ℕ) (t : ModelText) : Type 0 where
  pub text : List ℕ
  pub line : List ℕ
  pub parts : bytes ≡ text ++ line
  pub lines : AreOfModel text
  pub ended : AreEnded text
  pub whole : AreWhole text
  pub read : HasLines t.need text t.reader
  pub is : P line
  pub short : IsShort line t.line

-- the model goes on
abbrev pub IsInModel : List ℕ → ModelText → Type 0
IsInModel bytes t = AtLine IsUnfinished bytes t

-- a whole line whose only word is '%%'
abbrev pub IsMark : List ℕ → Type 0
IsMark line = IsFinished line × (is_separator line ≡ true)

-- the model goes on, or this line has come
abbrev pub IsAt : List ℕ → Bool → ModelText → Type 0
IsAt bytes false t = IsInModel bytes t
IsAt bytes true t = AtLine IsMark bytes t

-- whatever bytes of the model came before, these have come too
abbrev pub TakesInModel : ModelText → List ℕ → Bool → ModelText → Type 0
TakesInModel old part ended new = (bytes : List ℕ) → IsInModel bytes old → IsAt (bytes ++ part) ended new

-- a last line without an LF was read, unless it is the line '%%'
abbrev pub ReadsLast : ModelText → ModelText → Type 0
ReadsLast old new = (bytes : List ℕ) → IsInModel bytes old → HasLines old.need (halves_of bytes).model new.reader

-- the model has ended with these bytes, and this is what its text reads as
pub record EndsSo (need : Need) (bytes : List ℕ) (result : Result Model ModelStop) : Type 0 where
  pub text : List ℕ
  pub ends : EndsModel text bytes
  pub whole : AreWhole bytes
  pub reads : Reads result (model_reading need text)
