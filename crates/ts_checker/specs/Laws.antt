-- What is promised of verdicts, and of the boxes that wait.
use Rattle.std.specs.Prelude.{◌≡◌, ◌+◌, ◌<◌, ◌≤◌, ◌^◌, ℕ, List, [], ◌∷◌, length, Option, None}
use Rattle.ts_certificate.specs.declared.certificate.TreeLine.{TreeLine}
use Rattle.ts_certificate.specs.declared.certificate.TreeLine.TheVariants.{Split, Remove, No, Worse, Yes, Unsearched}
use Rattle.ts_certificate.specs.Certificate.{Cert}
use Rattle.ts_certificate.specs.Grammar.{CertLine, SaysAim, SaysClaim, SaysSeries, SaysTree, SaysEnd}
use Rattle.ts_domain.specs.BoxSeries.{IsBox}
use Rattle.ts_model.specs.Promise.{IsWhole}
use Rattle.ts_model.specs.ModelParts.{ModelParts, total_of}
use Rattle.ts_filter.specs.Accepts.{Accepts}
use Rattle.ts_filter.specs.Holds.{Holds}
use Rattle.ts_checker.specs.declared.verdict.Verdict.{Verdict}
use Rattle.ts_checker.specs.Checking.{Checking, first_checking, IsGoing, IsOver, HasChecked}
use Rattle.ts_spans.specs.Machines.{spans_in}
use Rattle.ts_checker.specs.declared.verify_end.VerifyEnd.{VerifyEnd}
use Rattle.ts_checker.specs.Verdicts.{IsVerdict}
use Rattle.ts_checker.specs.Verified.{IsFailed, IsVerifyEnd}

-- what is accepted is true, whoever wrote it
abbrev pub AcceptedIsTrue : Type 0
AcceptedIsTrue = (m : ModelParts) (c : Cert) → IsWhole m → IsBox m.cells → Accepts m (spans_in m) c → Holds m c

-- there is one verdict on fewer than 2^62 lines
abbrev pub OneVerdict : Type 0
OneVerdict =
    (m : ModelParts) (texts : List (List ℕ)) (v w : Verdict) → length texts < 2 ^ 62 → IsVerdict m texts v →
    IsVerdict m texts w → v ≡ w

-- an input of fewer than 2^62 bytes has one end
abbrev pub OneEnd : Type 0
OneEnd =
    (bytes : List ℕ) (e f : VerifyEnd) → length bytes < 2 ^ 62 → IsVerifyEnd bytes e → IsVerifyEnd bytes f → e ≡ f

-- in an input of fewer than 2^62 bytes there is one first line that fails, or none does
abbrev pub OneFailed : Type 0
OneFailed =
    (bytes : List ℕ) (a b : Option ℕ) → length bytes < 2 ^ 62 → IsFailed bytes a → IsFailed bytes b → a ≡ b

-- before the first line nothing was checked
abbrev pub NoneChecked : Type 0
NoneChecked = (m : ModelParts) → HasChecked [] (first_checking m)

-- how many boxes more or less wait after a line: a split leaves one more, and a line that ends a box one less
abbrev pub splits_by : TreeLine → ℕ
splits_by (Split k t) = 1
splits_by l = 0

abbrev pub ends_by : TreeLine → ℕ
ends_by (Split k t) = 0
ends_by (Remove k v j) = 0
ends_by (No j p) = 1
ends_by (Worse p) = 1
ends_by Yes = 1
ends_by Unsearched = 1

-- how many splits the lines have, and how many of them end a box
abbrev pub splits : List CertLine → ℕ
splits [] = 0
splits (SaysAim a ∷ ls) = splits ls
splits (SaysClaim c ∷ ls) = splits ls
splits (SaysSeries x ∷ ls) = splits ls
splits (SaysTree l ∷ ls) = splits_by l + splits ls
splits (SaysEnd checked unsearched ∷ ls) = splits ls

abbrev pub ends : List CertLine → ℕ
ends [] = 0
ends (SaysAim a ∷ ls) = ends ls
ends (SaysClaim c ∷ ls) = ends ls
ends (SaysSeries x ∷ ls) = ends ls
ends (SaysTree l ∷ ls) = ends_by l + ends ls
ends (SaysEnd checked unsearched ∷ ls) = ends ls

-- before the first line that was refused or broken, as many boxes wait as 1 and the splits, less the lines that end a
-- box; from that line on none; and there are never more than the values of all domains together, less the cells, plus 1
pub record WaitsByLines (texts : List (List ℕ)) (c : Checking) (waiting : ℕ) : Type 0 where
  pub going : (g : IsGoing texts c) → c.failed ≡ None → waiting + ends g.are.lines ≡ 1 + splits g.are.lines
  pub over : IsOver c → waiting ≡ 0
  pub few : waiting + length c.model.cells ≤ total_of c.model.cells + 1
