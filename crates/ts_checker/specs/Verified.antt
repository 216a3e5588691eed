-- What `verify` says of an input: the refusal of its model, or the verdict on the lines of its certificate.
use Rattle.std.specs.Prelude.{◌≡◌, ◌⊎◌, ℕ, List, [], map, filter, Option, Some, None, Result, Ok, Err}
use Rattle.std.specs.Prelude.{unwrap_or}
use Rattle.ts_base.specs.Words.{strict_lines}
use Rattle.ts_certificate.specs.declared.state.State.TheVariants.{Start}
use Rattle.ts_certificate.specs.FirstStop.{MayFollow}
use Rattle.ts_certificate.specs.Grammar.{CertLine, line_text}
use Rattle.ts_token.specs.Halves.{halves_of}
use Rattle.ts_model.specs.declared.error.ModelKind.{ModelKind}
use Rattle.ts_model.specs.declared.model.Need.TheVariants.{List as Listed}
use Rattle.ts_model.specs.ModelReading.{model_reading}
use Rattle.ts_model.specs.ModelTexts.{has_lf}
use Rattle.ts_model.specs.ModelParts.{ModelParts}
use Rattle.ts_filter.specs.Lines.{IsOutcome, Stand}
use Rattle.ts_spans.specs.Machines.{spans_in}
use Rattle.ts_checker.specs.declared.verdict.Verdict.{Verdict}
use Rattle.ts_checker.specs.declared.verdict.Verdict.TheVariants.{Accepted}
use Rattle.ts_checker.specs.declared.verify_end.VerifyEnd.{VerifyEnd}
use Rattle.ts_checker.specs.declared.verify_end.VerifyEnd.TheVariants.{Model, Verdict as Judged}
use Rattle.ts_checker.specs.Verdicts.{IsAgainst, IsTrueOf, IsVerdict}

-- the first part of an input
abbrev pub model_part : List ℕ → List ℕ
model_part bytes = (halves_of bytes).model

-- the second part, empty where there is none
abbrev pub rest_part : List ℕ → List ℕ
rest_part bytes = unwrap_or (halves_of bytes).rest []

-- the lines of a certificate after a model
abbrev pub certificate_lines : List ℕ → List (List ℕ)
certificate_lines bytes = strict_lines (rest_part bytes)

-- the verdict is that on these lines, and where they are accepted, their claim is true of the model
pub record IsShownBy (texts : List (List ℕ)) (m : ModelParts) (verdict : Verdict) : Type 0 where
  pub is : IsVerdict m texts verdict
  pub holds : verdict ≡ Accepted → IsTrueOf m texts

-- the model is stated, and this is the verdict on the certificate after it
pub record IsJudged (bytes : List ℕ) (verdict : Verdict) : Type 0 where
  pub model : ModelParts
  pub states : model_reading Listed (model_part bytes) ≡ Ok model
  pub shown : IsShownBy (certificate_lines bytes) model verdict

-- how an input ends: its model is refused, or its certificate is judged
abbrev pub IsVerifyEnd : List ℕ → VerifyEnd → Type 0
IsVerifyEnd bytes (Model line kind) = model_reading Listed (model_part bytes) ≡ Err (line, kind)
IsVerifyEnd bytes (Judged verdict) = IsJudged bytes verdict

-- the lines of a text that end with their LF
abbrev pub ended_lines : List ℕ → List (List ℕ)
ended_lines text = filter has_lf (strict_lines text)

-- the texts are those of lines of a certificate, and this one, if any, is the first that breaks its rule
pub record BreaksFirst (m : ModelParts) (texts : List (List ℕ)) (failed : Option ℕ) : Type 0 where
  pub lines : List CertLine
  pub are : texts ≡ map line_text lines
  pub follow : MayFollow Start lines
  pub stand : Stand
  pub found : IsOutcome m (spans_in m) lines stand failed

-- the line that is refused, or else the first that breaks its rule
abbrev pub FailsFirst : ModelParts → List (List ℕ) → Option ℕ → Type 0
FailsFirst m texts failed =
    ((line : ℕ) × IsAgainst texts line × (failed ≡ Some line)) ⊎ BreaksFirst m texts failed

-- the line that fails first where the model is valid; none where it isn't
abbrev pub FailsIn : Result ModelParts (ℕ × ModelKind) → List (List ℕ) → Option ℕ → Type 0
FailsIn (Ok m) texts failed = FailsFirst m texts failed
FailsIn (Err bad) texts failed = failed ≡ None

-- the first line of the certificate, among those that end with their LF, that is refused, or else breaks its rule
abbrev pub IsFailed : List ℕ → Option ℕ → Type 0
IsFailed bytes failed = FailsIn (model_reading Listed (model_part bytes)) (ended_lines (rest_part bytes)) failed
