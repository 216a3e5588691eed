-- What an accepted certificate means: over series, the values of terms and the boxes of the `open` lines alone.
use Rattle.std.specs.Prelude.{◌≡◌, ◌⊎◌, ℤ, true, List, [], ◌∷◌, Some}
use Rattle.std.specs.List.{AllByRecursion}
use Rattle.ts_base.specs.declared.ext.Ext.{Ext}
use Rattle.ts_base.specs.declared.goal.Goal.{Goal}
use Rattle.ts_certificate.specs.declared.certificate.Aim.{Aim}
use Rattle.ts_certificate.specs.declared.certificate.Aim.TheVariants.{Best as BestOf, List as ListOf}
use Rattle.ts_certificate.specs.declared.certificate.Claim.{Claim}
use Rattle.ts_certificate.specs.declared.certificate.Claim.TheVariants.{Best, Infeasible, BudgetBest, BudgetNone}
use Rattle.ts_certificate.specs.declared.certificate.Claim.TheVariants.{Full, All, BudgetList}
use Rattle.ts_certificate.specs.Certificate.{Cert}
use Rattle.ts_model.specs.Meets.{Meets}
use Rattle.ts_model.specs.ModelParts.{ModelParts}
use Rattle.ts_model.specs.FirstBest.{objective_of, is_better}
use Rattle.ts_filter.specs.Boxes.{Box, InSome}
use Rattle.ts_filter.specs.Steps.{open_boxes}

-- the one series meets and has the objective v
pub record IsOne (m : ModelParts) (v : Ext) (series : List (List ℤ)) : Type 0 where
  pub x : List ℤ
  pub alone : series ≡ x ∷ []
  pub meets : Meets m x
  pub value : objective_of m x ≡ Some v

-- the series meets, and its objective is better than v
pub record IsBetter (m : ModelParts) (goal : Goal) (v : Ext) (x : List ℤ) : Type 0 where
  pub meets : Meets m x
  pub value : Ext
  pub is : objective_of m x ≡ Some value
  pub better : is_better goal value v ≡ true

abbrev pub IsListed : List ℤ → List (List ℤ) → Type 0
IsListed x [] = ⊥
IsListed x (y ∷ ys) = (x ≡ y) ⊎ IsListed x ys

abbrev pub AllDiffer : List (List ℤ) → Type 0
AllDiffer [] = Unit {0}
AllDiffer (x ∷ xs) = (IsListed x xs → ⊥) × AllDiffer xs

-- the listed series are different and meet, and every other one that meets lies in one of the boxes
pub record ListHolds (m : ModelParts) (series : List (List ℤ)) (opens : List Box) : Type 0 where
  pub differ : AllDiffer series
  pub meet : AllByRecursion (Meets m) series
  pub others : (x : List ℤ) → Meets m x → IsListed x series ⊎ InSome opens x

abbrev pub BestHolds : ModelParts → Goal → Claim → List (List ℤ) → List Box → Type 0
BestHolds m goal (Best v) series opens = IsOne m v series × ((x : List ℤ) → IsBetter m goal v x → ⊥)
BestHolds m goal Infeasible series opens = (x : List ℤ) → Meets m x → ⊥
BestHolds m goal (BudgetBest v) series opens =
    IsOne m v series × ((x : List ℤ) → IsBetter m goal v x → InSome opens x)
BestHolds m goal BudgetNone series opens = (x : List ℤ) → Meets m x → InSome opens x
BestHolds m goal (Full c) series opens = ⊥
BestHolds m goal (All c) series opens = ⊥
BestHolds m goal (BudgetList c) series opens = ⊥

abbrev pub ListingHolds : ModelParts → Claim → List (List ℤ) → List Box → Type 0
ListingHolds m (Best v) series opens = ⊥
ListingHolds m Infeasible series opens = ⊥
ListingHolds m (BudgetBest v) series opens = ⊥
ListingHolds m BudgetNone series opens = ⊥
ListingHolds m (Full c) series opens = ListHolds m series opens
ListingHolds m (All c) series opens = ListHolds m series []
ListingHolds m (BudgetList c) series opens = ListHolds m series opens

abbrev pub ClaimHolds : ModelParts → Aim → Claim → List (List ℤ) → List Box → Type 0
ClaimHolds m (BestOf goal) claim series opens = BestHolds m goal claim series opens
ClaimHolds m (ListOf count) claim series opens = ListingHolds m claim series opens

-- the meaning of the claim
abbrev pub Holds : ModelParts → Cert → Type 0
Holds m c = ClaimHolds m c.aim c.claim c.series (open_boxes (m.cells ∷ []) c.tree)
