-- A certificate, its lines and its one text.
use Rattle.std.specs.Prelude.{◌≡◌, ◌≢◌, ℕ, ◌+◌, ℤ, true, List, [], ◌∷◌, ◌++◌, length, map, if◌then◌else◌, None, Ok}
use Rattle.std.specs.List.{list_all, concat}
use Rattle.ts_base.specs.Words.{strict_lines}
use Rattle.ts_certificate.specs.declared.certificate.Aim.{Aim}
use Rattle.ts_certificate.specs.declared.certificate.Certificate.{Certificate}
use Rattle.ts_certificate.specs.declared.certificate.Claim.{Claim}
use Rattle.ts_certificate.specs.declared.certificate.TreeLine.{TreeLine}
use Rattle.ts_certificate.specs.Grammar.{CertLine, SaysAim, SaysClaim, SaysSeries, SaysTree, SaysEnd}
use Rattle.ts_certificate.specs.Grammar.{line_text, series_count, is_open}
use Rattle.ts_certificate.specs.HeadLines.{is_aim, is_claim, is_series}
use Rattle.ts_certificate.specs.Reading.{fresh, reading_after, answers_to, end_stop}
use Rattle.ts_certificate.specs.TreeLines.{is_tree_line}

-- a certificate as plain lists
pub record Cert : Type 0 where
  pub aim : Aim
  pub claim : Claim
  pub series : List (List ℤ)
  pub tree : List TreeLine

abbrev pub cert_seen : Certificate → Cert
cert_seen c = record { aim = c.aim; claim = c.claim; series = map (λ v. v.items) c.series.items; tree = c.tree.items }

-- the tree lines other than `open`, and the `open` lines
abbrev pub checked_count : List TreeLine → ℕ
checked_count [] = 0
checked_count (l ∷ ls) = if is_open l then checked_count ls else checked_count ls + 1

abbrev pub open_count : List TreeLine → ℕ
open_count [] = 0
open_count (l ∷ ls) = if is_open l then open_count ls + 1 else open_count ls

abbrev pub end_line : List TreeLine → CertLine
end_line tree = SaysEnd (checked_count tree) (open_count tree)

-- the aim, the claim, the series, the tree, and the end with its counts
abbrev pub cert_lines : Cert → List CertLine
cert_lines c =
    SaysAim c.aim ∷ SaysClaim c.claim ∷ (map SaysSeries c.series ++ (map SaysTree c.tree ++ end_line c.tree ∷ []))

abbrev pub lines_text : List CertLine → List ℕ
lines_text ls = concat (map line_text ls)

abbrev pub series_text : List (List ℤ) → List ℕ
series_text xs = lines_text (map SaysSeries xs)

abbrev pub tree_text : List TreeLine → List ℕ
tree_text ls = lines_text (map SaysTree ls)

abbrev pub certificate_text : Cert → List ℕ
certificate_text c = lines_text (cert_lines c)

-- each of its lines is in the grammar and stands in its place, and it has at least one tree line
pub record IsCertificate (c : Cert) : Type 0 where
  pub aim : is_aim c.aim ≡ true
  pub claim : is_claim c.aim c.claim ≡ true
  pub listed : length c.series ≡ series_count c.claim
  pub series : list_all is_series c.series ≡ true
  pub tree : list_all is_tree_line c.tree ≡ true
  pub some : c.tree ≢ []

-- the text is read to its end, and its lines are those of the certificate
pub record ReadsAs (text : List ℕ) (c : Cert) : Type 0 where
  pub whole : end_stop (reading_after fresh (strict_lines text)) ≡ None
  pub lines : answers_to fresh (strict_lines text) ≡ map Ok (cert_lines c)

-- the text is that of a certificate, and is read as it
pub record IsText (text : List ℕ) (c : Cert) : Type 0 where
  pub certificate : IsCertificate c
  pub written : text ≡ certificate_text c
  pub read : ReadsAs text c
