-- A certificate is accepted where each of its lines keeps its rule and its tree lines are one tree for the model's box.
use Rattle.std.specs.Prelude.{◌≡◌, ℕ, ◌<◌, ℤ, List, [], ◌∷◌, ◌++◌, length, Some, IsSome}
use Rattle.ts_certificate.specs.declared.certificate.Aim.{Aim}
use Rattle.ts_certificate.specs.declared.certificate.Aim.TheVariants.{Best as BestOf, List as ListOf}
use Rattle.ts_certificate.specs.declared.certificate.Claim.{Claim}
use Rattle.ts_certificate.specs.declared.certificate.Claim.TheVariants.{Best, Infeasible, BudgetBest, BudgetNone}
use Rattle.ts_certificate.specs.declared.certificate.Claim.TheVariants.{Full, All, BudgetList}
use Rattle.ts_certificate.specs.Certificate.{Cert}
use Rattle.ts_certificate.specs.Grammar.{series_count}
use Rattle.ts_domain.specs.BoxSeries.{IsBefore}
use Rattle.ts_model.specs.FirstBest.{objective_of}
use Rattle.ts_model.specs.Meets.{Meets}
use Rattle.ts_model.specs.ModelParts.{ModelParts}
use Rattle.ts_filter.specs.RefutedWorseDrop.{Spans}
use Rattle.ts_filter.specs.Rules.{head_of}
use Rattle.ts_filter.specs.Tree.{Tree, tree_lines, reported_after, Fits}

-- after `maximise` and `minimise` the model has an objective
abbrev pub AimFits : ModelParts → Aim → Type 0
AimFits m (BestOf goal) = IsSome m.objective
AimFits m (ListOf count) = Unit {0}

-- the claim is one of its aim; with `full C`, C is what was asked for, with `all C` and `budget C` it is below that
abbrev pub ClaimFits : Aim → Claim → Type 0
ClaimFits (BestOf goal) (Best v) = Unit {0}
ClaimFits (BestOf goal) Infeasible = Unit {0}
ClaimFits (BestOf goal) (BudgetBest v) = Unit {0}
ClaimFits (BestOf goal) BudgetNone = Unit {0}
ClaimFits (BestOf goal) (Full c) = ⊥
ClaimFits (BestOf goal) (All c) = ⊥
ClaimFits (BestOf goal) (BudgetList c) = ⊥
ClaimFits (ListOf count) (Best v) = ⊥
ClaimFits (ListOf count) Infeasible = ⊥
ClaimFits (ListOf count) (BudgetBest v) = ⊥
ClaimFits (ListOf count) BudgetNone = ⊥
ClaimFits (ListOf count) (Full c) = c ≡ count
ClaimFits (ListOf count) (All c) = c < count
ClaimFits (ListOf count) (BudgetList c) = c < count

-- a series comes after the last one before it, in lexicographic order
abbrev pub ComesAfter : List (List ℤ) → List ℤ → Type 0
ComesAfter [] x = Unit {0}
ComesAfter (z ∷ []) x = IsBefore z x
ComesAfter (z ∷ y ∷ zs) x = ComesAfter (y ∷ zs) x

-- a series has the claimed objective, or it comes after the series before
abbrev pub IsAsClaimed : ModelParts → Claim → List (List ℤ) → List ℤ → Type 0
IsAsClaimed m (Best v) before x = objective_of m x ≡ Some v
IsAsClaimed m Infeasible before x = Unit {0}
IsAsClaimed m (BudgetBest v) before x = objective_of m x ≡ Some v
IsAsClaimed m BudgetNone before x = Unit {0}
IsAsClaimed m (Full c) before x = ComesAfter before x
IsAsClaimed m (All c) before x = ComesAfter before x
IsAsClaimed m (BudgetList c) before x = ComesAfter before x

-- a series line keeps its rule after these series: its series meets the model, and is as the claim says
pub record SeriesFits (m : ModelParts) (claim : Claim) (before : List (List ℤ)) (x : List ℤ) : Type 0 where
  pub meets : Meets m x
  pub claimed : IsAsClaimed m claim before x

-- each of the series lines keeps its rule
abbrev pub AllFit : ModelParts → Claim → List (List ℤ) → List (List ℤ) → Type 0
AllFit m claim before [] = Unit {0}
AllFit m claim before (x ∷ xs) = SeriesFits m claim before x × AllFit m claim (before ++ x ∷ []) xs

-- in a listing each series had its `yes`
abbrev pub AllReported : Aim → ℕ → ℕ → Type 0
AllReported (BestOf goal) reported listed = Unit {0}
AllReported (ListOf count) reported listed = reported ≡ listed

-- the tree lines are those of one tree for the model's box
pub record HasTree (m : ModelParts) (s : Spans) (c : Cert) : Type 0 where
  pub tree : Tree
  pub lines : tree_lines tree ≡ c.tree
  pub fits : Fits m s (head_of c) 0 m.cells tree
  pub reported : AllReported c.aim (reported_after tree 0) (length c.series)

pub record Accepts (m : ModelParts) (s : Spans) (c : Cert) : Type 0 where
  pub aim : AimFits m c.aim
  pub claim : ClaimFits c.aim c.claim
  pub count : length c.series ≡ series_count c.claim
  pub series : AllFit m c.claim [] c.series
  pub tree : HasTree m s c
