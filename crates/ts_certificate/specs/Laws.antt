-- What is promised of texts both ways, and of their size.
use Rattle.std.specs.Prelude.{◌≡◌, ◌≢◌, ◌↔◌, ℕ, ◌+◌, ◌*◌, ◌<◌, ◌≤◌, ◌^◌, ℤ, List, length, Some, None, Result, Err}
use Rattle.std.specs.List.{AllByRecursion}
use Rattle.ts_base.specs.Limits.{most_cells, most_checked, most_domain_values, most_model_bytes, most_verify_bytes}
use Rattle.ts_base.specs.Words.{strict_lines}
use Rattle.ts_certificate.specs.declared.state.State.{State}
use Rattle.ts_certificate.specs.declared.state.State.TheVariants.{Start, AfterEnd}
use Rattle.ts_certificate.specs.declared.stop.CertStop.{CertStop}
use Rattle.ts_certificate.specs.declared.stop.CertStop.TheVariants.{Text}
use Rattle.ts_certificate.specs.declared.stop.LineStop.{LineStop}
use Rattle.ts_certificate.specs.Certificate.{Cert, IsCertificate, certificate_text, checked_count, open_count}
use Rattle.ts_certificate.specs.Certificate.{ReadsAs, IsText}
use Rattle.ts_certificate.specs.FirstStop.{IsFirst, IsReading}
use Rattle.ts_certificate.specs.Grammar.{CertLine, IsLine}
use Rattle.ts_certificate.specs.LineOf.{line_of}
use Rattle.ts_certificate.specs.Reading.{tree_lines, Reading, fresh, reading_with, reading_after, answer_to, end_stop}

-- what the reader makes of a line is what the line is
abbrev pub LineIsRead : Type 0
LineIsRead =
    (s : State) (text : List ℕ) (g : Result CertLine LineStop) → tree_lines s < 2 ^ 63 →
    (IsLine s text g ↔ (line_of s text ≡ g))

-- a reading stands after lines of a certificate, or has the stop of the first line that isn't one
abbrev pub ReadingIsFirst : Type 0
ReadingIsFirst = (texts : List (List ℕ)) → length texts < 2 ^ 63 → IsReading texts (reading_after fresh texts)

-- the stop of the first line that isn't one of a certificate is the one that is held
abbrev pub FirstIsHeld : Type 0
FirstIsHeld =
    (texts : List (List ℕ)) (stop : CertStop) → length texts < 2 ^ 63 → IsFirst Start 1 texts stop →
    (reading_after fresh texts).stop ≡ Some stop

-- an end line that is missing is reported at the number of lines plus 1
abbrev pub EndIsMissed : Type 0
EndIsMissed =
    (texts : List (List ℕ)) → length texts < 2 ^ 63 → (reading_after fresh texts).stop ≡ None →
    (reading_after fresh texts).state ≢ AfterEnd →
    end_stop (reading_after fresh texts) ≡ Some (Text (length texts + 1))

-- once there is a stop, each further line and the end are answered by it, and nothing changes
abbrev pub StopStays : Type 0
StopStays =
    (r : Reading) (stop : CertStop) (text : List ℕ) → r.stop ≡ Some stop →
    (answer_to r text ≡ Err stop) × (reading_with r text ≡ r) × (end_stop r ≡ Some stop)

-- what is written for a certificate is read as that certificate
abbrev pub WrittenIsRead : Type 0
WrittenIsRead = (c : Cert) → IsCertificate c → length c.series + length c.tree < 2 ^ 62 → ReadsAs (certificate_text c) c

-- a text that is read to its end is the text of a certificate, and is read as it
abbrev pub ReadIsWritten : Type 0
ReadIsWritten =
    (text : List ℕ) → length text < 2 ^ 62 → end_stop (reading_after fresh (strict_lines text)) ≡ None →
    (c : Cert) × IsText text c

-- two certificates with one text are one
abbrev pub OneCertificate : Type 0
OneCertificate =
    (c d : Cert) → IsCertificate c → IsCertificate d →
    length c.series + length c.tree < 2 ^ 62 → length d.series + length d.tree < 2 ^ 62 →
    certificate_text c ≡ certificate_text d → c ≡ d

-- what a solving command can write: at most the greatest budget of checked lines, an `open` line for each value of the
-- domains together at most, and series of no more numbers than a model has cells
pub record IsWithinLimits (c : Cert) : Type 0 where
  pub certificate : IsCertificate c
  pub checked : checked_count c.tree ≤ most_checked
  pub unsearched : open_count c.tree ≤ most_domain_values
  pub series : AllByRecursion (λ (values : List ℤ). length values ≤ most_cells) c.series

-- 21 bytes for a checked line, 5 for an `open` line, 4,615 for a series of 512 numbers, and 60 for the other three
abbrev pub TextIsShort : Type 0
TextIsShort =
    (c : Cert) → IsWithinLimits c →
    length (certificate_text c) ≤ 21 * checked_count c.tree + 5 * open_count c.tree + 4615 * length c.series + 60

-- after each model, with the LF that its last line may lack and the line `%%`, it fits what `verify` reads
abbrev pub TextFits : Type 0
TextFits =
    (c : Cert) (model : ℕ) → IsWithinLimits c → model ≤ most_model_bytes →
    model + 4 + length (certificate_text c) ≤ most_verify_bytes
