-- An input of `verify` as far as it was fed: what is kept of the bytes, and what is known of it.
use Rattle.std.specs.Prelude.{◌≡◌, ◌≢◌, ℕ, ◌+◌, ◌<◌, ◌≤◌, Bool, false, List, [], ◌∷◌, ◌++◌, filter, length}
use Rattle.std.specs.Prelude.{Option, None, Ok, Err}
use Rattle.ts_base.specs.Limits.{most_cells, too_many}
use Rattle.ts_base.specs.Words.{strict_lines}
use Rattle.ts_model.specs.declared.error.ModelKind.{ModelKind}
use Rattle.ts_model.specs.declared.model.Need.TheVariants.{List as Listed}
use Rattle.ts_model.specs.ModelReading.{model_reading}
use Rattle.ts_model.specs.ModelTexts.{AtLine, EndsModel, IsInModel, IsMark, IsUnfinished, has_lf}
use Rattle.ts_checker.specs.declared.input.Input.{Input}
use Rattle.ts_checker.specs.declared.input.Input.TheVariants.{InModel, Behind}
use Rattle.ts_checker.specs.declared.judging.Judging.{Judging as AtWork}
use Rattle.ts_checker.specs.declared.opened_model.OpenedModel.{OpenedModel}
use Rattle.ts_checker.specs.declared.opened_model.OpenedModel.TheVariants.{Refused, Judging}
use Rattle.ts_checker.specs.declared.verify_end.VerifyEnd.{VerifyEnd}
use Rattle.ts_checker.specs.declared.verify_end.VerifyEnd.TheVariants.{Model, Verdict}
use Rattle.ts_checker.specs.Checking.{HasChecked}
use Rattle.ts_checker.specs.Shortened.{IsKeptOf, IsSmall}
use Rattle.ts_checker.specs.Verified.{FailsFirst, IsShownBy, ended_lines}

-- the checker has checked lines with these texts
pub record HasJudged (texts : List (List ℕ)) (j : AtWork) : Type 0 where
  pub checked : HasChecked texts j.checker
  pub few : length j.checker.model.cells ≤ most_cells

-- whatever lines came before, the line that the kept bytes stand for has come too, with its LF
abbrev pub JudgesLine : AtWork → AtWork → Type 0
JudgesLine old new =
    (texts : List (List ℕ)) (line : List ℕ) → HasJudged texts old → IsKeptOf old.line.bytes.items line →
    HasJudged (texts ++ (line ++ 10 ∷ []) ∷ []) new

-- whatever follows, these bytes are these lines
abbrev pub AreWhole : List ℕ → List (List ℕ) → Type 0
AreWhole seen texts = (more : List ℕ) → strict_lines (seen ++ more) ≡ texts ++ strict_lines more

-- these bytes of a certificate are lines that were judged and the unfinished line, which what is kept stands for
-- unless a line was refused: then nothing is kept
pub record HasRead (bytes : List ℕ) (j : AtWork) : Type 0 where
  pub seen : List ℕ
  pub texts : List (List ℕ)
  pub line : List ℕ
  pub parts : bytes ≡ seen ++ line
  pub lines : AreWhole seen texts
  pub ended : filter has_lf texts ≡ texts
  pub free : IsUnfinished line
  pub judged : HasJudged texts j
  pub kept : j.checker.reading.stop ≡ None → IsKeptOf j.line.bytes.items line
  pub small : IsSmall j.line.bytes.items
  pub dropped : j.checker.reading.stop ≢ None → j.line.bytes.items ≡ []

-- whatever bytes of the certificate came before, these bytes have come too
abbrev pub Reads : AtWork → List ℕ → AtWork → Type 0
Reads old part new = (bytes : List ℕ) → HasRead bytes old → HasRead (bytes ++ part) new

-- what the model of a text gives
abbrev pub IsOpened : List ℕ → OpenedModel → Type 0
IsOpened text (Refused line kind) = model_reading Listed text ≡ Err (line, kind)
IsOpened text (Judging j) = (model_reading Listed text ≡ Ok j.checker.model) × HasRead [] j

-- bytes of the certificate are taken
abbrev pub TakesPart : OpenedModel → List ℕ → OpenedModel → Type 0
TakesPart (Refused line kind) part new = new ≡ Refused line kind
TakesPart (Judging old) part (Judging new) = Reads old part new × (new.checker.model ≡ old.checker.model)
TakesPart (Judging old) part (Refused line kind) = ⊥

-- the end of the input
abbrev pub EndsOpened : OpenedModel → VerifyEnd → Type 0
EndsOpened (Refused n k) (Model line kind) = (line ≡ n) × (kind ≡ k)
EndsOpened (Refused n k) (Verdict v) = ⊥
EndsOpened (Judging j) (Model line kind) = ⊥
EndsOpened (Judging j) (Verdict v) =
    (bytes : List ℕ) → HasRead bytes j → IsShownBy (strict_lines bytes) j.checker.model v

-- memory wasn't missing so far
abbrev pub IsCalm : OpenedModel → Type 0
IsCalm (Refused line kind) = Unit {0}
IsCalm (Judging j) = j.checker.missing ≡ false

-- so few bytes of the certificate came that this many more may come
abbrev pub HasFew : OpenedModel → ℕ → Type 0
HasFew (Refused line kind) more = Unit {0}
HasFew (Judging j) more = (bytes : List ℕ) × HasRead bytes j × (length bytes + more < too_many)

-- no refusal stands
abbrev pub IsGoing : OpenedModel → Type 0
IsGoing (Refused line kind) = ⊥
IsGoing (Judging j) = j.checker.reading.stop ≡ None

-- the first line of the certificate that fails
abbrev pub OpenedFails : OpenedModel → Option ℕ → Type 0
OpenedFails (Refused line kind) failed = failed ≡ None
OpenedFails (Judging j) failed =
    (bytes : List ℕ) → HasRead bytes j → FailsFirst j.checker.model (ended_lines bytes) failed

-- the model has ended, and is refused
pub record IsBehindRefusal (bytes : List ℕ) (line : ℕ) (kind : ModelKind) : Type 0 where
  pub text : List ℕ
  pub front : List ℕ
  pub rest : List ℕ
  pub parts : bytes ≡ front ++ rest
  pub ends : EndsModel text front
  pub reading : model_reading Listed text ≡ Err (line, kind)

-- the model has ended, and the certificate after it was taken
pub record IsInCertificate (bytes : List ℕ) (j : AtWork) : Type 0 where
  pub text : List ℕ
  pub front : List ℕ
  pub rest : List ℕ
  pub parts : bytes ≡ front ++ rest
  pub ends : EndsModel text front
  pub reading : model_reading Listed text ≡ Ok j.checker.model
  pub read : HasRead rest j

-- the model has ended
abbrev pub IsBehind : List ℕ → OpenedModel → Type 0
IsBehind bytes (Refused line kind) = IsBehindRefusal bytes line kind
IsBehind bytes (Judging j) = IsInCertificate bytes j

-- these bytes were taken
abbrev pub HasTaken : List ℕ → Input → Type 0
HasTaken bytes (InModel t) = IsInModel bytes t × (t.need ≡ Listed)
HasTaken bytes (Behind opened) = IsBehind bytes opened

-- these bytes were taken, and the line '%%' of the model is the last one, or the model has ended before
abbrev pub EndsIn : List ℕ → Input → Type 0
EndsIn bytes (InModel t) = AtLine IsMark bytes t × (t.need ≡ Listed)
EndsIn bytes (Behind opened) = IsBehind bytes opened

-- whatever bytes came before, these bytes have come too
abbrev pub TakesBytes : Input → List ℕ → Input → Type 0
TakesBytes old piece new = (bytes : List ℕ) → HasTaken bytes old → HasTaken (bytes ++ piece) new

-- what contracts see of a verifier
pub record Verifying : Type 0 where
  pub input : Input
  pub count : ℕ
  pub missing : Bool

-- so few bytes were taken that this many more may come
abbrev pub HasRoomFor : Input → ℕ → Type 0
HasRoomFor input more = (bytes : List ℕ) × HasTaken bytes input × (length bytes + more < too_many)

-- unless memory was missing, `count` bytes were taken
abbrev pub IsReady : Bool → ℕ → Input → Type 0
IsReady missing count input = missing ≡ false → (bytes : List ℕ) × HasTaken bytes input × (length bytes ≡ count)

-- neither the model nor a line of the certificate was refused
abbrev pub IsUnrefused : Input → Type 0
IsUnrefused (InModel t) = Unit {0}
IsUnrefused (Behind opened) = IsGoing opened

-- these bytes were fed, and memory was never missing
pub record HasFed (bytes : List ℕ) (v : Verifying) : Type 0 where
  pub calm : v.missing ≡ false
  pub taken : HasTaken bytes v.input
