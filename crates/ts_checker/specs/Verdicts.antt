-- The verdict on a certificate, given as the texts of its lines.
use Rattle.std.specs.Prelude.{◌≡◌, ◌≢◌, ◌⊎◌, ℕ, ◌+◌, List, length, map, Option, Some, None}
use Rattle.std.specs.Option.{option_map}
use Rattle.ts_certificate.specs.declared.state.State.TheVariants.{Start, AfterEnd}
use Rattle.ts_certificate.specs.declared.stop.CertStop.{CertStop}
use Rattle.ts_certificate.specs.Certificate.{Cert, IsCertificate, cert_lines}
use Rattle.ts_certificate.specs.FirstStop.{IsFirst, MayFollow}
use Rattle.ts_certificate.specs.Grammar.{CertLine, line_text, state_after}
use Rattle.ts_certificate.specs.Reading.{Reading}
use Rattle.ts_model.specs.ModelParts.{ModelParts}
use Rattle.ts_filter.specs.Accepts.{Accepts}
use Rattle.ts_filter.specs.Holds.{Holds}
use Rattle.ts_filter.specs.Lines.{IsFirstFailing}
use Rattle.ts_spans.specs.Machines.{spans_in}
use Rattle.ts_checker.specs.declared.verdict.Verdict.{Verdict}
use Rattle.ts_checker.specs.declared.verdict.Verdict.TheVariants.{Accepted, Rejected, Refused}

-- the texts are those of the lines of this certificate
pub record AreOf (texts : List (List ℕ)) (c : Cert) : Type 0 where
  pub certificate : IsCertificate c
  pub are : texts ≡ map line_text (cert_lines c)

-- the texts before this line are those of lines that may follow one another, and this one is of none that may come
-- there, or an end line with other counts
pub record IsAgainst (texts : List (List ℕ)) (line : ℕ) : Type 0 where
  pub stop : CertStop
  pub first : IsFirst Start 1 texts stop
  pub number : line ≡ 1 + length first.before

-- the texts are those of lines that may follow one another, and after the last of them, at this line, `end` is missing
pub record IsUnended (texts : List (List ℕ)) (line : ℕ) : Type 0 where
  pub lines : List CertLine
  pub are : texts ≡ map line_text lines
  pub follow : MayFollow Start lines
  pub before_end : state_after Start lines ≢ AfterEnd
  pub number : line ≡ length texts + 1

-- the first line that is against the grammar or has other counts, or that is missing
abbrev pub IsRefused : List (List ℕ) → ℕ → Type 0
IsRefused texts line = IsAgainst texts line ⊎ IsUnended texts line

-- refused at a line, whatever its lines are worth; else accepted, or rejected at the first line that breaks its rule
abbrev pub IsVerdict : ModelParts → List (List ℕ) → Verdict → Type 0
IsVerdict m texts Accepted = (c : Cert) × AreOf texts c × Accepts m (spans_in m) c
IsVerdict m texts (Rejected line) = (c : Cert) × AreOf texts c × IsFirstFailing m (spans_in m) c line
IsVerdict m texts (Refused line) = IsRefused texts line

-- the texts are those of a certificate whose claim is true of the model
abbrev pub IsTrueOf : ModelParts → List (List ℕ) → Type 0
IsTrueOf m texts = (c : Cert) × AreOf texts c × Holds m c

-- the line that was refused: the reading stays at its number
abbrev pub refused_line : Reading → Option ℕ
refused_line r = option_map (λ _. r.next) r.stop

-- the verdict by where the reading stops, and by the first line that breaks its rule
abbrev pub verdict_by : ℕ → Option CertStop → Option ℕ → Verdict
verdict_by next (Some stop) failed = Refused next
verdict_by next None (Some line) = Rejected line
verdict_by next None None = Accepted
