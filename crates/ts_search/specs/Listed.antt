-- A certificate of the first series, in lexicographic order, that meet.
use Rattle.std.specs.Prelude.{◌≡◌, ◌⊎◌, ℕ, ◌<◌, ◌≤◌, ℤ, List, length}
use Rattle.std.specs.List.{AllByRecursion}
use Rattle.ts_certificate.specs.declared.certificate.Aim.TheVariants.{List as ListOf}
use Rattle.ts_certificate.specs.declared.certificate.Claim.{Claim}
use Rattle.ts_certificate.specs.declared.certificate.Claim.TheVariants.{Best, Infeasible, BudgetBest, BudgetNone}
use Rattle.ts_certificate.specs.declared.certificate.Claim.TheVariants.{Full, All, BudgetList}
use Rattle.ts_certificate.specs.declared.certificate.TreeLine.{TreeLine}
use Rattle.ts_certificate.specs.Certificate.{Cert, checked_count, open_count}
use Rattle.ts_domain.specs.BoxSeries.{IsBefore, AreRising}
use Rattle.ts_model.specs.Meets.{Meets}
use Rattle.ts_model.specs.ModelParts.{ModelParts}
use Rattle.ts_filter.specs.Accepts.{Accepts}
use Rattle.ts_filter.specs.Holds.{IsListed}
use Rattle.ts_filter.specs.RefutedWorseDrop.{Spans}
use Rattle.ts_search.specs.Lean.{Lean}

-- the series meet, in order, and each other series that meets comes after all of them
pub record AreFirst (m : ModelParts) (series : List (List ℤ)) : Type 0 where
  pub rising : AreRising series
  pub meet : AllByRecursion (Meets m) series
  pub others : (y : List ℤ) → Meets m y → IsListed y series ⊎ ((x : List ℤ) → IsListed x series → IsBefore x y)

abbrev pub IsListedBy : ModelParts → ℕ → ℕ → Claim → List (List ℤ) → List TreeLine → Type 0
IsListedBy m count n (Best v) series ls = ⊥
IsListedBy m count n Infeasible series ls = ⊥
IsListedBy m count n (BudgetBest v) series ls = ⊥
IsListedBy m count n BudgetNone series ls = ⊥
IsListedBy m count n (Full k) series ls = (k ≡ length series) × (k ≡ count)
IsListedBy m count n (All k) series ls =
    (k ≡ length series) × (k < count) × ((y : List ℤ) → Meets m y → IsListed y series)
IsListedBy m count n (BudgetList k) series ls =
    (k ≡ length series) × (k < count) × (checked_count ls ≡ n) × (0 < open_count ls)

pub record IsListAnswer (m : ModelParts) (s : Spans) (count n : ℕ) (c : Cert) : Type 0 where
  pub aim : c.aim ≡ ListOf count
  pub accepts : Accepts m s c
  pub lean : Lean m s c
  pub within : checked_count c.tree ≤ n
  pub first : AreFirst m c.series
  pub claim : IsListedBy m count n c.claim c.series c.tree
