-- A certificate of the first best series, of that there is none, or of a budget that was spent.
use Rattle.std.specs.Prelude.{◌≡◌, ℕ, ◌<◌, ◌≤◌, ℤ, List, [], ◌∷◌, Some, None}
use Rattle.ts_base.specs.declared.goal.Goal.{Goal}
use Rattle.ts_certificate.specs.declared.certificate.Aim.TheVariants.{Best as BestOf}
use Rattle.ts_certificate.specs.declared.certificate.Claim.{Claim}
use Rattle.ts_certificate.specs.declared.certificate.Claim.TheVariants.{Best, Infeasible, BudgetBest, BudgetNone}
use Rattle.ts_certificate.specs.declared.certificate.Claim.TheVariants.{Full, All, BudgetList}
use Rattle.ts_certificate.specs.declared.certificate.TreeLine.{TreeLine}
use Rattle.ts_certificate.specs.Certificate.{Cert, checked_count, open_count}
use Rattle.ts_model.specs.FirstBest.{FirstBest, objective_of}
use Rattle.ts_model.specs.Meets.{Meets}
use Rattle.ts_model.specs.ModelParts.{ModelParts}
use Rattle.ts_filter.specs.Accepts.{Accepts}
use Rattle.ts_filter.specs.RefutedWorseDrop.{Spans}
use Rattle.ts_search.specs.Found.{found_in}
use Rattle.ts_search.specs.Lean.{Lean}
use Rattle.ts_search.specs.LineOf.{Contest, contest_for}

abbrev pub IsSolvedBy : Contest → ℕ → Claim → List (List ℤ) → List TreeLine → Type 0
IsSolvedBy c n (Best v) series ls =
    (x : List ℤ) × (series ≡ x ∷ []) × FirstBest c.search.model c.goal x × (objective_of c.search.model x ≡ Some v)
    × (open_count ls ≡ 0)
IsSolvedBy c n Infeasible series ls = (series ≡ []) × ((x : List ℤ) → Meets c.search.model x → ⊥)
IsSolvedBy c n (BudgetBest v) series ls =
    (x : List ℤ) × (series ≡ x ∷ []) × (checked_count ls ≡ n) × (0 < open_count ls)
    × (found_in c ls ≡ Some (record { series = x; value = v }))
IsSolvedBy c n BudgetNone series ls =
    (series ≡ []) × (checked_count ls ≡ n) × (0 < open_count ls) × (found_in c ls ≡ None)
IsSolvedBy c n (Full count) series ls = ⊥
IsSolvedBy c n (All count) series ls = ⊥
IsSolvedBy c n (BudgetList count) series ls = ⊥

pub record IsSolution (m : ModelParts) (s : Spans) (goal : Goal) (n : ℕ) (c : Cert) : Type 0 where
  pub aim : c.aim ≡ BestOf goal
  pub accepts : Accepts m s c
  pub lean : Lean m s c
  pub within : checked_count c.tree ≤ n
  pub claim : IsSolvedBy (contest_for m s goal) n c.claim c.series c.tree
