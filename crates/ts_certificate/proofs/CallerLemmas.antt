-- For the crates above: lines of a certificate, readings of them, and the certificate that was read.
use Rattle.std.proofs.Common.{ℕ, ◌+◌, ◌≤◌, Option, Some, None, Ok, Err, List, arith}
use Rattle.std.specs.Prelude.{Result}
use Rattle.ts_certificate.specs.declared.stop.CertStop.{CertStop}
use Rattle.ts_certificate.specs.declared.stop.LineStop.{LineStop}
use Rattle.ts_certificate.specs.Grammar.{CertLine}
use Rattle.ts_certificate.specs.LineOf.{line_of}
use Rattle.ts_certificate.specs.Reading.{Reading, reading_by, reading_unless, reading_with}
pub use Rattle.ts_certificate.proofs.LineLaws.{line_of_only, line_of_again}
pub use Rattle.ts_certificate.proofs.StopLaws.{line_is, one_line}
pub use Rattle.ts_certificate.proofs.ReadingLaws.{at_line, AreRead, moved_few, reading_is, lines_again}
pub use Rattle.ts_certificate.proofs.CertificateLaws.{Runs, runs_from, runs_give, certificate_runs, runs_certificate}
pub use Rattle.ts_certificate.proofs.ByteLaws.{lines_cut, lines_count, written_read, read_written, one_value, first_told, missing_end, stop_kept}
pub use Rattle.ts_certificate.proofs.SizeLaws.{checked_short, text_short, text_fits}

-- a line more moves the number by one at most
pub next_few : (r : Reading) (text : List ℕ) → (reading_with r text).next ≤ r.next + 1
next_few r text = go r.stop where
  by_line : (g : Result CertLine LineStop) → (reading_by r g).next ≤ r.next + 1
  by_line (Ok l) = omega arith
  by_line (Err e) = omega arith

  go : (o : Option CertStop) → (reading_unless r o text).next ≤ r.next + 1
  go None = by_line (line_of r.state text)
  go (Some stop) = omega arith
