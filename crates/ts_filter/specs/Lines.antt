-- The lines of a certificate one after another, each by its rule, and the first that breaks it.
use Rattle.std.specs.Prelude.{◌≡◌, ℕ, zero, suc, ℤ, List, [], ◌∷◌, ◌++◌, length, Option, Some, None, MatchOption}
use Rattle.ts_certificate.specs.declared.certificate.Aim.{Aim}
use Rattle.ts_certificate.specs.declared.certificate.Claim.{Claim}
use Rattle.ts_certificate.specs.declared.certificate.TreeLine.{TreeLine}
use Rattle.ts_certificate.specs.Certificate.{Cert, cert_lines}
use Rattle.ts_certificate.specs.Grammar.{CertLine, SaysAim, SaysClaim, SaysSeries, SaysTree, SaysEnd}
use Rattle.ts_model.specs.ModelParts.{ModelParts}
use Rattle.ts_filter.specs.Accepts.{AimFits, ClaimFits, SeriesFits, AllReported}
use Rattle.ts_filter.specs.Boxes.{Box}
use Rattle.ts_filter.specs.RefutedWorseDrop.{Spans}
use Rattle.ts_filter.specs.Rules.{KeepsRule}
use Rattle.ts_filter.specs.Steps.{made_by}
use Rattle.ts_filter.specs.Tree.{reported_by}

-- what the lines so far say and leave: the boxes that wait, the next one first, and the number of `yes` lines
pub record Stand : Type 0 where
  pub aim : Option Aim
  pub claim : Option Claim
  pub series : List (List ℤ)
  pub waiting : List Box
  pub reported : ℕ

-- what stands before the first line
abbrev pub first_stand : ModelParts → Stand
first_stand m = record { aim = None; claim = None; series = []; waiting = m.cells ∷ []; reported = 0 }

-- the rule of a tree line: a box waits for it, and there it keeps the rule of its form
abbrev pub KeepsTreeRule : ModelParts → Spans → Option Aim → Option Claim → List (List ℤ) → List Box → ℕ → TreeLine →
    Type 0
KeepsTreeRule m s None claim series waiting reported l = ⊥
KeepsTreeRule m s (Some aim) None series waiting reported l = ⊥
KeepsTreeRule m s (Some aim) (Some claim) series [] reported l = ⊥
KeepsTreeRule m s (Some aim) (Some claim) series (b ∷ waiting) reported l =
    KeepsRule m s (record { aim = aim; claim = claim; series = series }) reported b l

-- the line keeps its rule after lines that leave this
abbrev pub KeepsLine : ModelParts → Spans → Stand → CertLine → Type 0
KeepsLine m s t (SaysAim a) = AimFits m a
KeepsLine m s t (SaysClaim c) = MatchOption t.aim ⊥ (λ a. ClaimFits a c)
KeepsLine m s t (SaysSeries x) = MatchOption t.claim ⊥ (λ c. SeriesFits m c t.series x)
KeepsLine m s t (SaysTree l) = KeepsTreeRule m s t.aim t.claim t.series t.waiting t.reported l
KeepsLine m s t (SaysEnd checked unsearched) =
    MatchOption t.aim ⊥ (λ a. (t.waiting ≡ []) × AllReported a t.reported (length t.series))

abbrev pub waiting_after : List Box → TreeLine → List Box
waiting_after [] l = []
waiting_after (b ∷ waiting) l = made_by l b ++ waiting

-- what stands after one more line
abbrev pub stand_after : Stand → CertLine → Stand
stand_after t (SaysAim a) = record t { aim = Some a }
stand_after t (SaysClaim c) = record t { claim = Some c }
stand_after t (SaysSeries x) = record t { series = t.series ++ x ∷ [] }
stand_after t (SaysTree l) = record t { waiting = waiting_after t.waiting l; reported = reported_by l t.reported }
stand_after t (SaysEnd checked unsearched) = t

-- each line keeps its rule, and all of them lead to this stand
abbrev pub Leads : ModelParts → Spans → Stand → List CertLine → Stand → Type 0
Leads m s t [] u = t ≡ u
Leads m s t (l ∷ ls) u = KeepsLine m s t l × Leads m s (stand_after t l) ls u

-- line number n, counted from 1, breaks its rule, and those before keep theirs
abbrev pub FailsAt : ModelParts → Spans → Stand → List CertLine → ℕ → Type 0
FailsAt m s t [] n = ⊥
FailsAt m s t (l ∷ ls) zero = ⊥
FailsAt m s t (l ∷ ls) (suc zero) = KeepsLine m s t l → ⊥
FailsAt m s t (l ∷ ls) (suc (suc n)) = KeepsLine m s t l × FailsAt m s (stand_after t l) ls (suc n)

-- the first line of the certificate that breaks its rule
abbrev pub IsFirstFailing : ModelParts → Spans → Cert → ℕ → Type 0
IsFirstFailing m s c n = FailsAt m s (first_stand m) (cert_lines c) n

-- what is known of lines as far as they are read: all kept their rules and lead to this, or line n is the first that
-- breaks its rule
abbrev pub IsOutcome : ModelParts → Spans → List CertLine → Stand → Option ℕ → Type 0
IsOutcome m s ls t None = Leads m s (first_stand m) ls t
IsOutcome m s ls t (Some n) = FailsAt m s (first_stand m) ls n
