-- The theorem: each reply of a command to an input within its limit says what is promised.
use Rattle.std.proofs.Common.{◌≡◌, ℕ, ◌≤◌, Some, Ok, Err, List, length, ◌∙◌, ap, subst, arith}
use Rattle.std.specs.Prelude.{Result}
use Rattle.ts_model.specs.declared.error.ModelKind.{ModelKind}
use Rattle.ts_model.specs.declared.model.Need.TheVariants.{Values, List as NeedsList, Best as NeedsBest}
use Rattle.ts_model.specs.ModelParts.{ModelParts}
use Rattle.ts_model.specs.ModelReading.{model_reading}
use Rattle.ts_checker.specs.Verified.{certificate_lines, model_part, rest_part}
use Rattle.ts_run.specs.AnswerTexts.{IsReply, ProgramReply, SeriesReply}
use Rattle.ts_run.specs.Refusals.{OnReading, refused_model}
use Rattle.ts_run.specs.Certified.{IsBest, IsListing}
use Rattle.ts_run.specs.Commands.{KeepsRanges, input_of}
use Rattle.ts_run.specs.Headline.{Headline, SaysProgram, States, reading_of}
use Rattle.ts_run.specs.Reply.{Reply}
use Rattle.ts_run.specs.Verified.{IsVerified}
use Rattle.ts_run.specs.Watch.{reply_on}
use Rattle.ts_run.specs.declared.command.Command.{Command}
use Rattle.ts_run.specs.declared.command.Command.TheVariants.{Check, Compile, Verify, Best, Generate, Sample, Mark, Watch}
use Rattle.ts_run.specs.declared.command.Input.{Input}
use Rattle.ts_run.specs.declared.command.Input.TheVariants.{Whole, Live, Nothing}
use Rattle.ts_run.proofs.BestLaws.{says_best, says_list}
use Rattle.ts_run.proofs.CheckLaws.{says_checked}
use Rattle.ts_run.proofs.CompileLaws.{says_program}
use Rattle.ts_run.proofs.MarkLaws.{says_marks}
use Rattle.ts_run.proofs.SampleLaws.{says_sample}
use Rattle.ts_run.proofs.VerifyLaws.{says_verdict}
use Rattle.ts_run.proofs.WatchReplies.{says_watched}

-- the input is within its limit
abbrev pub FitsIn : List ℕ → Input → Type 0
FitsIn bytes (Whole limit) = length bytes ≤ limit
FitsIn bytes (Live limit) = length bytes ≤ limit
FitsIn bytes Nothing = Unit {0}

-- where the model is refused, so is the input
module _ (line : ℕ) (kind : ModelKind) (r : Reply) where
  refused : (next : ModelParts → Reply → Type 0) (reading : Result ModelParts (ℕ × ModelKind)) → Some reading ≡ Some (Err (line, kind)) →
      OnReading reading next r → r ≡ refused_model line kind
  refused next reading e h = let same : reading ≡ Err (line, kind) = cc in subst (λ (x : Result ModelParts (ℕ × ModelKind)). OnReading x next r) same h

  pub is_refused : (command : Command) (bytes : List ℕ) → IsReply command bytes r → reading_of command bytes ≡ Some (Err (line, kind)) →
      r ≡ refused_model line kind
  is_refused Check bytes h e = refused (SeriesReply (rest_part bytes)) (model_reading Values (model_part bytes)) e h
  is_refused Compile bytes h e = refused ProgramReply (model_reading Values bytes) e h
  is_refused Verify bytes h e = refused (IsVerified (certificate_lines bytes)) (model_reading NeedsList (model_part bytes)) e h
  is_refused (Best goal lines) bytes h e = refused (IsBest goal lines) (model_reading NeedsBest bytes) e h
  is_refused (Generate count lines) bytes h e = refused (IsListing count lines) (model_reading NeedsList bytes) e h
  is_refused (Sample cells) bytes h e = absurd (cc)
  is_refused Mark bytes h e = absurd (cc)
  is_refused Watch bytes h e =
      let read : model_reading Values (model_part bytes) ≡ Err (line, kind) = cc in
      h ∙ ap (λ (x : Result ModelParts (ℕ × ModelKind)). reply_on x (rest_part bytes)) read

compiled : (bytes : List ℕ) (m : ModelParts) (r : Reply) → States Compile bytes m → IsReply Compile bytes r → SaysProgram m r
compiled bytes m r states h =
    let read : model_reading Values bytes ≡ Ok m = cc in
    says_program m r (subst (λ (x : Result ModelParts (ℕ × ModelKind)). OnReading x ProgramReply r) read h)

module _ (command : Command) (bytes : List ℕ) (r : Reply) (ranges : KeepsRanges command) (fits : FitsIn bytes (input_of command))
    (is : IsReply command bytes r) where
  reply_as : (other : Command) → command ≡ other → IsReply other bytes r
  reply_as other e = subst (λ z. IsReply z bytes r) e is

  fits_as : (other : Command) → command ≡ other → FitsIn bytes (input_of other)
  fits_as other e = subst (λ z. FitsIn bytes (input_of z)) e fits

  ranges_as : (other : Command) → command ≡ other → KeepsRanges other
  ranges_as other e = subst KeepsRanges e ranges

  states_as : (other : Command) → command ≡ other → (m : ModelParts) → States command bytes m → States other bytes m
  states_as other e m = subst (λ z. States z bytes m) e

  pub headline : Headline command bytes r
  headline = record {
    refuses = λ line kind e. is_refused line kind r command bytes is e;
    checks = λ m e states.
        let here : States Check bytes m = states_as Check e m states in
        let read : model_reading Values (model_part bytes) ≡ Ok m = cc in
        says_checked bytes m r read (reply_as Check e);
    solves = λ goal lines m e states.
        let other = Best goal lines in
        let here : States other bytes m = states_as other e m states in
        let read : model_reading NeedsBest bytes ≡ Ok m = cc in
        says_best goal lines bytes m r (ranges_as other e) (fits_as other e) read (reply_as other e);
    lists = λ count lines m e states.
        let other = Generate count lines in
        let here : States other bytes m = states_as other e m states in
        let read : model_reading NeedsList bytes ≡ Ok m = cc in
        let within = ranges_as other e in
        says_list count lines bytes m r within.0 within.1 (fits_as other e) read (reply_as other e);
    verifies = λ e. let few : length bytes ≤ 135266304 = fits_as Verify e in says_verdict bytes r (omega (arith, few)) (reply_as Verify e);
    compiles = λ m e states. compiled bytes m r (states_as Compile e m states) (reply_as Compile e);
    samples = λ cells e. says_sample cells r (reply_as (Sample cells) e);
    marks = λ e. says_marks bytes r (reply_as Mark e);
    watches = λ m e states.
        let here : States Watch bytes m = states_as Watch e m states in
        let read : model_reading Values (model_part bytes) ≡ Ok m = cc in
        says_watched bytes m r read (reply_as Watch e);
    reply = is;
  }
