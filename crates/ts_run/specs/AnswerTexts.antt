-- What each command replies to the bytes of its input.
use Rattle.std.specs.Prelude.{ℕ, ◌≡◌, ◌<◌, ◌^◌, ◌↔◌, ℤ, List, length, Result, Ok}
use Rattle.ts_certificate.specs.Certificate.{Cert}
use Rattle.ts_token.specs.Text.{cut_of}
use Rattle.ts_model.specs.declared.error.SeriesStop.{SeriesStop}
use Rattle.ts_model.specs.declared.model.Need.TheVariants.{Values, List as NeedsList, Best as NeedsBest}
use Rattle.ts_base.specs.declared.goal.Goal.{Goal}
use Rattle.ts_model.specs.Meets.{Meets}
use Rattle.ts_model.specs.ModelReading.{model_reading}
use Rattle.ts_model.specs.Series.{series_reading}
use Rattle.ts_model.specs.ModelParts.{ModelParts}
use Rattle.ts_filter.specs.Accepts.{Accepts}
use Rattle.ts_spans.specs.Machines.{spans_in}
use Rattle.ts_checker.specs.declared.verify_end.VerifyEnd.{VerifyEnd}
use Rattle.ts_checker.specs.declared.verify_end.VerifyEnd.TheVariants.{Model, Verdict as Judged}
use Rattle.ts_checker.specs.Verdicts.{AreOf}
use Rattle.ts_checker.specs.Verified.{certificate_lines, model_part, rest_part}
use Rattle.ts_run.specs.Certified.{IsBest, IsListing}
use Rattle.ts_run.specs.CompiledValue.{IsProgramText}
use Rattle.ts_run.specs.MarkReply.{MarkReply}
use Rattle.ts_run.specs.Refusals.{OnModel, OnSeries, refused_model}
use Rattle.ts_run.specs.Reply.{Reply}
use Rattle.ts_run.specs.Sample.{SampleReply}
use Rattle.ts_run.specs.Verdict.{verdict}
use Rattle.ts_run.specs.Verified.{IsVerified, verdict_reply}
use Rattle.ts_run.specs.Watch.{watch_reply}
use Rattle.ts_run.specs.declared.command.Command.{Command}
use Rattle.ts_run.specs.declared.command.Command.TheVariants.{Check, Compile, Verify, Best, Generate, Sample, Mark, Watch}
use Rattle.ts_run.specs.declared.status.Status.TheVariants.{Done}

-- the series in a text, as many numbers as the model has cells
abbrev pub series_in : ModelParts → List ℕ → Result (List ℤ) SeriesStop
series_in m text = series_reading (length m.cells) (cut_of text)

-- the refusal of the series in the text, or the verdict on it
abbrev pub SeriesReply : List ℕ → ModelParts → Reply → Type 0
SeriesReply text m r = OnSeries (series_in m text) (λ xs s. s ≡ verdict m xs) r

-- what `check` replies: the refusal of the model, that of the series, or the verdict
abbrev pub CheckReply : List ℕ → Reply → Type 0
CheckReply bytes r = OnModel Values (model_part bytes) (SeriesReply (rest_part bytes)) r

-- the program text of what is stated
abbrev pub ProgramReply : ModelParts → Reply → Type 0
ProgramReply m r = IsProgramText m r.text × (r.status ≡ Done)

-- what `compile` replies: the refusal of the model, or its program text
abbrev pub CompileReply : List ℕ → Reply → Type 0
CompileReply bytes r = OnModel Values bytes ProgramReply r

-- what `verify` replies: the refusal of the model, or the verdict on the certificate
abbrev pub VerifyReply : List ℕ → Reply → Type 0
VerifyReply bytes r = OnModel NeedsList (model_part bytes) (IsVerified (certificate_lines bytes)) r

-- the refusal of the model, or the verdict, in words
abbrev pub end_reply : VerifyEnd → Reply
end_reply (Model line kind) = refused_model line kind
end_reply (Judged verdict) = verdict_reply verdict

-- what `maximise` and `minimise` reply: the refusal of the model, or a certificate that is solved
abbrev pub BestReply : Goal → ℕ → List ℕ → Reply → Type 0
BestReply goal lines bytes r = OnModel NeedsBest bytes (IsBest goal lines) r

-- what `generate` replies: the refusal of the model, or a certificate that is listed
abbrev pub ListReply : ℕ → ℕ → List ℕ → Reply → Type 0
ListReply count lines bytes r = OnModel NeedsList bytes (IsListing count lines) r

-- what a command replies to its input
abbrev pub IsReply : Command → List ℕ → Reply → Type 0
IsReply Check bytes r = CheckReply bytes r
IsReply Compile bytes r = CompileReply bytes r
IsReply Verify bytes r = VerifyReply bytes r
IsReply (Best goal lines) bytes r = BestReply goal lines bytes r
IsReply (Generate count lines) bytes r = ListReply count lines bytes r
IsReply (Sample cells) bytes r = SampleReply cells r
IsReply Mark bytes r = MarkReply bytes r
IsReply Watch bytes r = r ≡ watch_reply bytes

-- an input of `check` states this model and this series
pub record IsAsked (bytes : List ℕ) (m : ModelParts) (xs : List ℤ) : Type 0 where
  pub model : model_reading Values (model_part bytes) ≡ Ok m
  pub series : series_in m (rest_part bytes) ≡ Ok xs

-- `check` has one reply to an input
abbrev pub OneCheckReply : Type 0
OneCheckReply = (bytes : List ℕ) (r s : Reply) → CheckReply bytes r → CheckReply bytes s → r ≡ s

-- `compile` has one reply to an input
abbrev pub OneCompileReply : Type 0
OneCompileReply = (bytes : List ℕ) (r s : Reply) → CompileReply bytes r → CompileReply bytes s → r ≡ s

-- the status of `check` is `Done` exactly where the series meets the model
abbrev pub DoneIsMeets : Type 0
DoneIsMeets =
    (bytes : List ℕ) (m : ModelParts) (xs : List ℤ) (r : Reply) → IsAsked bytes m xs → CheckReply bytes r →
    (r.status ≡ Done) ↔ Meets m xs

-- an input of `verify` states this model and has this certificate
pub record IsOffered (bytes : List ℕ) (m : ModelParts) (c : Cert) : Type 0 where
  pub model : model_reading NeedsList (model_part bytes) ≡ Ok m
  pub certificate : AreOf (certificate_lines bytes) c

-- `verify` has one reply to an input
abbrev pub OneVerifyReply : Type 0
OneVerifyReply =
    (bytes : List ℕ) (r s : Reply) → length bytes < 2 ^ 62 → VerifyReply bytes r → VerifyReply bytes s → r ≡ s

-- the status of `verify` is `Done` exactly where the certificate is accepted
abbrev pub DoneIsAccepted : Type 0
DoneIsAccepted =
    (bytes : List ℕ) (m : ModelParts) (c : Cert) (r : Reply) → length bytes < 2 ^ 62 → IsOffered bytes m c →
    VerifyReply bytes r → (r.status ≡ Done) ↔ Accepts m (spans_in m) c

-- `maximise` and `minimise` have one reply to an input, and so has `generate`
abbrev pub OneBestReply : Type 0
OneBestReply =
    (goal : Goal) (lines : ℕ) (bytes : List ℕ) (r s : Reply) → BestReply goal lines bytes r →
    BestReply goal lines bytes s → r ≡ s

abbrev pub OneListReply : Type 0
OneListReply =
    (count lines : ℕ) (bytes : List ℕ) (r s : Reply) → ListReply count lines bytes r →
    ListReply count lines bytes s → r ≡ s
