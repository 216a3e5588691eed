-- The rule of each line of a tree, on the box that waits for it.
use Rattle.std.specs.Prelude.{◌≡◌, ◌≢◌, ℕ, ℤ, List, [], Option, Some, None, MatchOption, slice_get}
use Rattle.ts_base.specs.declared.ext.Ext.{Ext}
use Rattle.ts_certificate.specs.declared.certificate.Aim.{Aim}
use Rattle.ts_certificate.specs.declared.certificate.Aim.TheVariants.{Best as BestOf, List as ListOf}
use Rattle.ts_certificate.specs.declared.certificate.Claim.{Claim}
use Rattle.ts_certificate.specs.declared.certificate.Claim.TheVariants.{Best, Infeasible, BudgetBest, BudgetNone}
use Rattle.ts_certificate.specs.declared.certificate.Claim.TheVariants.{Full, All, BudgetList}
use Rattle.ts_certificate.specs.declared.certificate.TreeLine.{TreeLine}
use Rattle.ts_certificate.specs.declared.certificate.TreeLine.TheVariants.{Split, Remove, No, Worse, Yes, Unsearched}
use Rattle.ts_certificate.specs.Certificate.{Cert}
use Rattle.ts_domain.specs.Kept.{values_up_to, values_above}
use Rattle.ts_model.specs.ModelParts.{ModelParts}
use Rattle.ts_filter.specs.Boxes.{Box, HasCell, values_at, box_of}
use Rattle.ts_filter.specs.RefutedWorseDrop.{Spans, IsRefuted, IsWorse, IsDrop}

-- what the lines before the tree say
pub record Head : Type 0 where
  pub aim : Aim
  pub claim : Claim
  pub series : List (List ℤ)

abbrev pub head_of : Cert → Head
head_of c = record { aim = c.aim; claim = c.claim; series = c.series }

-- `split K T`: both the values of cell K up to T and those above are some
pub record IsSplit (k : ℕ) (t : ℤ) (b : Box) : Type 0 where
  pub cell : HasCell k b
  pub below : values_up_to t (values_at k b) ≢ []
  pub above : values_above t (values_at k b) ≢ []

-- the number that `best V` and `budget V` claim
abbrev pub claimed_value : Claim → Option Ext
claimed_value (Best v) = Some v
claimed_value Infeasible = None
claimed_value (BudgetBest v) = Some v
claimed_value BudgetNone = None
claimed_value (Full c) = None
claimed_value (All c) = None
claimed_value (BudgetList c) = None

abbrev pub IsWorseFor : ModelParts → Spans → Aim → Ext → ℕ → Box → Type 0
IsWorseFor m s (BestOf goal) v p b = IsWorse m s goal p b v
IsWorseFor m s (ListOf count) v p b = ⊥

-- `worse P`: the claim has a number, and the objective is not better at P
abbrev pub MayBeWorse : ModelParts → Spans → Head → ℕ → Box → Type 0
MayBeWorse m s h p b = MatchOption (claimed_value h.claim) ⊥ (λ v. IsWorseFor m s h.aim v p b)

abbrev pub IsListing : Aim → Type 0
IsListing (BestOf goal) = ⊥
IsListing (ListOf count) = Unit {0}

-- `yes`, after some of these lines: the aim is `generate`, and the box is the next listed series alone
pub record IsNext (h : Head) (reported : ℕ) (b : Box) : Type 0 where
  pub listing : IsListing h.aim
  pub series : List ℤ
  pub listed : slice_get h.series reported ≡ Some series
  pub alone : b ≡ box_of series

-- `open`: the claim is `budget V`, `budget none`, `full C` or `budget C`
abbrev pub MayStayOpen : Claim → Type 0
MayStayOpen (Best v) = ⊥
MayStayOpen Infeasible = ⊥
MayStayOpen (BudgetBest v) = Unit {0}
MayStayOpen BudgetNone = Unit {0}
MayStayOpen (Full c) = Unit {0}
MayStayOpen (All c) = ⊥
MayStayOpen (BudgetList c) = Unit {0}

-- the line keeps its rule on the box, after some `yes` lines
abbrev pub KeepsRule : ModelParts → Spans → Head → ℕ → Box → TreeLine → Type 0
KeepsRule m s h reported b (Split k t) = IsSplit k t b
KeepsRule m s h reported b (Remove k v j) = IsDrop m.requirements s k v j b
KeepsRule m s h reported b (No j p) = IsRefuted m.requirements s j p b
KeepsRule m s h reported b (Worse p) = MayBeWorse m s h p b
KeepsRule m s h reported b Yes = IsNext h reported b
KeepsRule m s h reported b Unsearched = MayStayOpen h.claim
