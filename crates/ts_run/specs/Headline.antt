-- The theorem: what each command answers to the bytes of its input. `run` writes such an answer and no other
-- (`Endings`), unless memory runs out, or reading or writing fails. The words mean what their definitions say: a series
-- meets a model (`Meets`) by occurrences, ranges and plain sums alone.
use Rattle.std.specs.Prelude.{ℕ, ◌≡◌, ◌<◌, ◌≤◌, ◌+◌, ◌*◌, ◌↔◌, ℤ, List, [], ◌∷◌, length, Option, Some, None, Result, Ok, Err, ◌++◌, IsSome, true, false}
use Rattle.ts_base.specs.declared.ext.Ext.{Ext}
use Rattle.ts_base.specs.declared.letter.Letter.{Letter}
use Rattle.ts_base.specs.declared.range.Range.{Range}
use Rattle.ts_base.specs.Signature.{signature_of}
use Rattle.ts_token.specs.Text.{cut_of}
use Rattle.ts_pattern.specs.OccurrenceList.{AreRanges}
use Rattle.ts_base.specs.declared.goal.Goal.{Goal}
use Rattle.ts_certificate.specs.declared.certificate.Claim.TheVariants.{Best as BestIs, Infeasible, All}
use Rattle.ts_certificate.specs.Certificate.{Cert, checked_count, open_count}
use Rattle.ts_domain.specs.BoxSeries.{series_count}
use Rattle.ts_model.specs.declared.error.ModelKind.{ModelKind}
use Rattle.ts_model.specs.declared.model.Need.TheVariants.{Values, List as NeedsList, Best as NeedsBest}
use Rattle.ts_model.specs.FirstBest.{FirstBest, objective_of}
use Rattle.ts_model.specs.Meets.{Meets}
use Rattle.ts_model.specs.ModelParts.{ModelParts}
use Rattle.ts_model.specs.ModelReading.{model_reading}
use Rattle.ts_model.specs.TermValue.{has_window}
use Rattle.ts_model.specs.Series.{any_series_reading}
use Rattle.ts_user.specs.declared.user_stop.UserKind.{UserKind}
use Rattle.ts_user.specs.BuildAnswers.{IsRefused, IsTooMany}
use Rattle.ts_user.specs.PatternReading.{pattern_reading}
use Rattle.ts_user.specs.Stated.{Described}
use Rattle.ts_mark.specs.MarkText.{holding, marks_text}
use Rattle.ts_mark.specs.Holders.{AreHolders}
use Rattle.ts_filter.specs.Accepts.{Accepts}
use Rattle.ts_filter.specs.Holds.{Holds, IsListed}
use Rattle.ts_filter.specs.Lines.{IsFirstFailing}
use Rattle.ts_spans.specs.Machines.{spans_in}
use Rattle.ts_search.specs.Listed.{AreFirst, IsListAnswer}
use Rattle.ts_search.specs.Solved.{IsSolution}
use Rattle.ts_checker.specs.Verdicts.{AreOf, IsRefused as IsRefusedAt}
use Rattle.ts_checker.specs.Verified.{certificate_lines, model_part, rest_part}
use Rattle.ts_run.specs.AnswerTexts.{IsOffered, IsReply, series_in}
use Rattle.ts_run.specs.Certified.{IsWritten}
use Rattle.ts_run.specs.CompiledValue.{IsCompiled}
use Rattle.ts_run.specs.Joined.{GoesToVerify}
use Rattle.ts_run.specs.MarkReply.{IsPlanned, unplanned_in}
use Rattle.ts_run.specs.Quantities.{usual_lines}
use Rattle.ts_run.specs.Refusals.{OnSeries, refused_closure, refused_model, refused_pattern, refused_toomany, refused_window}
use Rattle.ts_run.specs.Reply.{Reply}
use Rattle.ts_run.specs.Sample.{SampleReply}
use Rattle.ts_run.specs.SampleModel.{sample_stated}
use Rattle.ts_run.specs.Verdict.{verdict}
use Rattle.ts_run.specs.Verified.{refused_certificate, rejected_certificate}
use Rattle.ts_run.specs.Watch.{last_line, readings_of, values_lines}
use Rattle.ts_run.specs.declared.command.Command.{Command}
use Rattle.ts_run.specs.declared.command.Command.TheVariants.{Check, Compile, Verify, Best, Generate, Sample, Mark, Watch}
use Rattle.ts_run.specs.declared.status.Status.TheVariants.{Done, No, Budget, Refused}

-- how the model in the input of a command is read, in the limits of what it needs: the model that its lines state, or
-- its first bad line with the first kind that holds of it
abbrev pub reading_of : Command → List ℕ → Option (Result ModelParts (ℕ × ModelKind))
reading_of Check bytes = Some (model_reading Values (model_part bytes))
reading_of Compile bytes = Some (model_reading Values bytes)
reading_of Verify bytes = Some (model_reading NeedsList (model_part bytes))
reading_of (Best goal lines) bytes = Some (model_reading NeedsBest bytes)
reading_of (Generate count lines) bytes = Some (model_reading NeedsList bytes)
reading_of (Sample cells) bytes = None
reading_of Mark bytes = None
reading_of Watch bytes = Some (model_reading Values (model_part bytes))

-- the input states this model
abbrev pub States : Command → List ℕ → ModelParts → Type 0
States command bytes m = reading_of command bytes ≡ Some (Ok m)

-- the answer is `meets` exactly where the series meets the model, else `fails`; it has the value of each term
pub record SaysMeets (m : ModelParts) (xs : List ℤ) (answer : Reply) : Type 0 where
  pub text : answer ≡ verdict m xs
  pub meets : (answer.status ≡ Done) ↔ Meets m xs
  pub fails : (answer.status ≡ No) ↔ (Meets m xs → ⊥)

-- the program of a model: its automata answer the values of the terms, and are glued to them at every cell where the
-- pattern has a partner
pub record SaysProgram (m : ModelParts) (answer : Reply) : Type 0 where
  pub compiled : IsCompiled m answer.text
  pub done : answer.status ≡ Done

-- a certificate, the only one of its kind, with the status of its claim: `verify` accepts it after its model, and what
-- it claims is true. It claims that the budget was spent only if exactly that many lines were checked and a box is
-- open, and never if the budget is at least 2·S - 1 for a model with S series.
pub record SaysCertificate (Is : Cert → Type 0) (lines : ℕ) (m : ModelParts) (bytes : List ℕ)
    (answer : Reply) : Type 0 where
  pub certificate : Cert
  pub is : Is certificate
  pub only : (other : Cert) → Is other → other ≡ certificate
  pub written : IsWritten certificate answer
  pub spent : answer.status ≡ Budget → (checked_count certificate.tree ≡ lines) × (0 < open_count certificate.tree)
  pub enough : 2 * series_count m.cells ≤ lines + 1 → answer.status ≡ Budget → ⊥
  pub verified : GoesToVerify m bytes certificate

-- `best` has the first, in lexicographic order, of the best series that meet; `infeasible` is claimed only if none
-- meets
pub record SaysBest (goal : Goal) (lines : ℕ) (m : ModelParts) (bytes : List ℕ) (answer : Reply) : Type 0 where
  pub says : SaysCertificate (IsSolution m (spans_in m) goal lines) lines m bytes answer
  pub best : (v : Ext) → says.certificate.claim ≡ BestIs v →
      (x : List ℤ) × (says.certificate.series ≡ x ∷ []) × FirstBest m goal x × (objective_of m x ≡ Some v)
  pub infeasible : says.certificate.claim ≡ Infeasible → (x : List ℤ) → Meets m x → ⊥

-- the series of a listing are the first that meet, in order; `all` is claimed only if no other one meets
pub record SaysList (count lines : ℕ) (m : ModelParts) (bytes : List ℕ) (answer : Reply) : Type 0 where
  pub says : SaysCertificate (IsListAnswer m (spans_in m) count lines) lines m bytes answer
  pub first : AreFirst m says.certificate.series
  pub all : (n : ℕ) → says.certificate.claim ≡ All n → (x : List ℤ) → Meets m x → IsListed x says.certificate.series

-- the input states a model and has a certificate, which is accepted, and what it claims is true of the model
pub record IsShown (bytes : List ℕ) : Type 0 where
  pub model : ModelParts
  pub states : States Verify bytes model
  pub certificate : Cert
  pub lines : AreOf (certificate_lines bytes) certificate
  pub accepted : Accepts model (spans_in model) certificate
  pub holds : Holds model certificate

-- the answer is `accepted` exactly where each line of the certificate keeps its rule, and then its claim is true;
-- otherwise the first line that breaks its rule is named; of lines that are no certificate, the first against the
-- grammar
pub record SaysVerdict (bytes : List ℕ) (answer : Reply) : Type 0 where
  pub shown : answer.status ≡ Done → IsShown bytes
  pub exact : (m : ModelParts) (c : Cert) → IsOffered bytes m c → (answer.status ≡ Done) ↔ Accepts m (spans_in m) c
  pub rejects : (m : ModelParts) (c : Cert) (line : ℕ) → IsOffered bytes m c → IsFirstFailing m (spans_in m) c line →
      answer ≡ rejected_certificate line
  pub refuses : (m : ModelParts) (line : ℕ) → States Verify bytes m → IsRefusedAt (certificate_lines bytes) line →
      answer ≡ refused_certificate line

-- the model of `sample`, minimised and checked; the budget isn't reported as spent if it is at least 2·S - 1
pub record SaysSample (cells : ℕ) (answer : Reply) : Type 0 where
  pub is : SampleReply cells answer
  pub enough : 2 * series_count (sample_stated cells).cells ≤ usual_lines + 1 → answer.status ≡ Budget → ⊥

-- of a pattern and a series: the ranges are those of the occurrences, by rising start, and the word of each cell has
-- the numbers of exactly those ranges that hold it
pub record SaysOccurrences (d : Described) (xs : List ℤ) (answer : Reply) : Type 0 where
  pub ranges : List Range
  pub are : AreRanges d.expression d.b d.a (signature_of xs) ranges
  pub text : answer.text ≡ marks_text (length xs) ranges
  pub names : (cell : ℕ) → AreHolders cell ranges (holding cell 1 ranges)
  pub done : answer.status ≡ Done

-- a pattern text is refused at its first bad line with the first reason; what it describes, by the first signature on
-- whose last letter a check fails, or if more than 512 configurations are reached before; the series after it, by the
-- first reason; otherwise the occurrences are reported
pub record SaysMarks (bytes : List ℕ) (answer : Reply) : Type 0 where
  pub pattern : (line : ℕ) (kind : UserKind) → pattern_reading (model_part bytes) ≡ Err (line, kind) →
      answer ≡ refused_pattern line kind
  pub closure : (d : Described) (w : List Letter) → pattern_reading (model_part bytes) ≡ Ok d →
      IsRefused (unplanned_in d) w → answer ≡ refused_closure w
  pub toomany : (d : Described) → pattern_reading (model_part bytes) ≡ Ok d →
      IsTooMany (unplanned_in d) → answer ≡ refused_toomany
  pub occurrences : (d : Described) → pattern_reading (model_part bytes) ≡ Ok d → IsPlanned d →
      OnSeries (any_series_reading (cut_of (rest_part bytes))) (SaysOccurrences d) answer

-- after each reading the values of the terms on all readings so far; then the end with their number, or the refusal of
-- the first bad line
pub record SaysValues (m : ModelParts) (text : List ℕ) (answer : Reply) : Type 0 where
  pub lines : answer.text ≡ values_lines m [] (readings_of text).values
      ++ (last_line (readings_of text).bad (length (readings_of text).values)).text
  pub done : (answer.status ≡ Done) ↔ ((readings_of text).bad ≡ None)
  pub refused : (answer.status ≡ Refused) ↔ IsSome (readings_of text).bad

-- a window is refused, since a term has to look at all readings; without one the values are reported
pub record SaysWatched (m : ModelParts) (text : List ℕ) (answer : Reply) : Type 0 where
  pub window : has_window m ≡ true → answer ≡ refused_window
  pub values : has_window m ≡ false → SaysValues m text answer

-- The theorem, by the rows of the table of promises: each field says what a command answers to an input.
pub record Headline (command : Command) (bytes : List ℕ) (answer : Reply) : Type 0 where
  -- a text is read as its lines state, or refused at its first bad line with the first reason
  pub refuses : (line : ℕ) (kind : ModelKind) → reading_of command bytes ≡ Some (Err (line, kind)) →
      answer ≡ refused_model line kind
  -- `check` refuses a series by the first reason, says `meets` exactly where it meets the model, and the value of each
  -- term
  pub checks : (m : ModelParts) → command ≡ Check → States command bytes m →
      OnSeries (series_in m (rest_part bytes)) (SaysMeets m) answer
  -- `maximise` and `minimise`: the first best series, or that there is none, or that the budget was spent
  pub solves : (goal : Goal) (lines : ℕ) (m : ModelParts) → command ≡ Best goal lines → States command bytes m →
      SaysBest goal lines m bytes answer
  -- `generate`: the first series that meet
  pub lists : (count lines : ℕ) (m : ModelParts) → command ≡ Generate count lines → States command bytes m →
      SaysList count lines m bytes answer
  -- `verify` accepts exactly where each line keeps its rule, and what it accepts is true
  pub verifies : command ≡ Verify → SaysVerdict bytes answer
  -- an automaton of `compile` answers its term's value on each series up to 100,000 cells
  pub compiles : (m : ModelParts) → command ≡ Compile → States command bytes m → SaysProgram m answer
  -- `sample` solves and checks a model of its own
  pub samples : (cells : ℕ) → command ≡ Sample cells → SaysSample cells answer
  -- `mark` reports the occurrences of a pattern, one of the catalogue or the user's own
  pub marks : command ≡ Mark → SaysMarks bytes answer
  -- `watch` reports the values of the terms on each prefix of the readings, and refuses a window
  pub watches : (m : ModelParts) → command ≡ Watch → States command bytes m → SaysWatched m (rest_part bytes) answer
  -- the answer is one that the definitions give for the bytes
  pub reply : IsReply command bytes answer
