-- A stream of `watch` as far as it came: what is known of the bytes, by what is kept of them.
use Rattle.std.specs.Prelude.{ℕ, ◌≡◌, ◌+◌, ◌<◌, ◌≤◌, ℤ, false, List, [], ◌∷◌, ◌++◌, length, map, Option, Some, None, Ok}
use Rattle.ts_base.specs.Limits.{IsCellValue, most_terms, too_many}
use Rattle.ts_decorate.specs.Answers.{longest}
use Rattle.ts_token.specs.Gist.{AreEnded, IsLine}
use Rattle.ts_token.specs.Short.{IsShort}
use Rattle.ts_token.specs.Text.{lines_of}
use Rattle.ts_pattern.specs.TermValue.{term_value}
use Rattle.ts_model.specs.declared.error.ModelStop.{ModelStop}
use Rattle.ts_model.specs.declared.error.ModelStop.TheVariants.{Refused as RefusedModel, Memory as NoMemory}
use Rattle.ts_model.specs.declared.model.Need.TheVariants.{Values}
use Rattle.ts_model.specs.Meets.{values_on}
use Rattle.ts_model.specs.TermValue.{has_window}
use Rattle.ts_model.specs.ModelParts.{ModelParts}
use Rattle.ts_model.specs.ModelReading.{model_reading}
use Rattle.ts_model.specs.ModelTexts.{AreWhole, AtLine, EndsModel, IsInModel, IsMark, IsUnfinished}
use Rattle.ts_monitor.specs.Monitors.{StandsFor, Watched}
use Rattle.ts_run.specs.Refusals.{refused_model}
use Rattle.ts_run.specs.Reply.{Reply}
use Rattle.ts_run.specs.Streams.{Due}
use Rattle.ts_run.specs.Watch.{Readings, bad_at, line_onto, readings_of, refused_reading, values_lines}
use Rattle.ts_run.specs.declared.readings.Reading.{Reading}
use Rattle.ts_run.specs.declared.readings.Reading.TheVariants.{Skipped, Value, Bad}
use Rattle.ts_run.specs.declared.readings.ReadingsText.{ReadingsText}
use Rattle.ts_run.specs.declared.status.Status.{Status}
use Rattle.ts_run.specs.declared.status.Status.TheVariants.{Refused}
use Rattle.ts_run.specs.declared.watch.Stage.{Stage}
use Rattle.ts_run.specs.declared.watch.Stage.TheVariants.{InModel, InReadings}

-- what a line gives, as a list
abbrev pub given : Reading → Option (List ℤ)
given Skipped = Some []
given (Value v) = Some (v ∷ [])
given Bad = None

-- a reading is a value that a cell may have
abbrev pub IsCellReading : Reading → Type 0
IsCellReading (Value v) = IsCellValue v
IsCellReading _ = Unit {0}

-- how a line that gives this is read after `count` readings: as one of them, where one more may come
abbrev pub IsNext : ℕ → Option (List ℤ) → Reading → Type 0
IsNext count gives Skipped = gives ≡ Some []
IsNext count gives (Value v) = (gives ≡ Some (v ∷ [])) × (count < longest) × IsCellValue v
IsNext count gives Bad = (number : ℕ) (next : ℕ → Readings) → line_onto count number gives next ≡ bad_at number

-- the terms of a monitor are those of the model, no more than a model may have
pub record HasTerms (m : ModelParts) (w : Watched) : Type 0 where
  pub values : (xs : List ℤ) → map (λ t. term_value t xs) w.terms ≡ values_on m xs
  pub few : length w.terms ≤ most_terms

-- the text is whole lines, none of which is bad, and the monitor stands for their readings
pub record HasTaken (m : ModelParts) (text : List ℕ) (values : List ℤ) (r : ReadingsText) : Type 0 where
  pub good : readings_of text ≡ record { values = values; bad = None }
  pub count : r.lines ≡ length (lines_of text)
  pub stands : StandsFor r.monitor values
  pub terms : HasTerms m r.monitor

-- the bytes are whole lines that were taken, and a line without an LF, which what is kept stands for
pub record AreReadings (m : ModelParts) (bytes : List ℕ) (r : ReadingsText) : Type 0 where
  pub text : List ℕ
  pub line : List ℕ
  pub values : List ℤ
  pub parts : bytes ≡ text ++ line
  pub ended : AreEnded text
  pub whole : AreWhole text
  pub taken : HasTaken m text values r
  pub free : IsUnfinished line
  pub short : IsShort line r.line

-- readings of whole lines were taken, and what is kept stands for the line after them
pub record MayRead (r : ReadingsText) : Type 0 where
  pub model : ModelParts
  pub text : List ℕ
  pub line : List ℕ
  pub values : List ℤ
  pub taken : HasTaken model text values r
  pub short : IsShort line r.line
  pub few : length text + length line < too_many

-- one line more of the text was read: its reading, where it has one, adds a line of values; or it is bad
abbrev pub EndsLine : ModelParts → List ℕ → List ℤ → List ℕ → List ℕ → Option Status → ReadingsText → Type 0
EndsLine m text values before after None new =
    (more : List ℤ) × (after ≡ before ++ values_lines m values more) × HasTaken m text (values ++ more) new
    × IsShort [] new.line
EndsLine m text values before after (Some status) new =
    (number : ℕ) × (readings_of text ≡ record { values = values; bad = Some number }) × (status ≡ Refused)
    × (after ≡ before ++ (refused_reading number).text)

-- whatever whole lines came before, the line that what is kept stands for is read
abbrev pub ReadsLine : ReadingsText → List ℕ → List ℕ → Option Status → ReadingsText → Type 0
ReadsLine old before after ended new =
    (m : ModelParts) (text line : List ℕ) (values : List ℤ) → AreEnded text → IsLine line → IsShort line old.line →
    HasTaken m text values old → EndsLine m (text ++ line) values before after ended new

-- the model was read, each of its terms looks at all cells, and readings came after it
pub record IsBehindModel (bytes : List ℕ) (r : ReadingsText) : Type 0 where
  pub text : List ℕ
  pub front : List ℕ
  pub rest : List ℕ
  pub parts : bytes ≡ front ++ rest
  pub ends : EndsModel text front
  pub whole : AreWhole front
  pub model : ModelParts
  pub reads : model_reading Values text ≡ Ok model
  pub windowless : has_window model ≡ false
  pub readings : AreReadings model rest r

-- these bytes have come
abbrev pub HasCome : List ℕ → Stage → Type 0
HasCome bytes (InModel t) = IsInModel bytes t × (t.need ≡ Values)
HasCome bytes (InReadings r) = IsBehindModel bytes r

-- these bytes have come, and the line `%%` of the model is the last one
abbrev pub EndsIn : List ℕ → Stage → Type 0
EndsIn bytes (InModel t) = AtLine IsMark bytes t × (t.need ≡ Values)
EndsIn bytes (InReadings r) = ⊥

-- the refusal of the model was put after the text
abbrev pub IsRefusedBy : ModelStop → List ℕ → List ℕ → Status → Type 0
IsRefusedBy (RefusedModel line kind) before after status =
    (after ≡ before ++ (refused_model line kind).text) × (status ≡ Refused)
IsRefusedBy NoMemory before after status = ⊥

-- the whole reply was put after the text
abbrev pub IsPut : Reply → List ℕ → List ℕ → Status → Type 0
IsPut r before after status = (after ≡ before ++ r.text) × (status ≡ r.status)

-- all that is owed was put after the text
abbrev pub IsOwed : Due → List ℕ → List ℕ → Option Status → Type 0
IsOwed due before after ended = (after ≡ before ++ due.text) × (due.ended ≡ ended)
