-- The value of the objective, what is better, and the first of the best series in lexicographic order.
use Rattle.std.specs.Prelude.{◌≡◌, ◌⊎◌, ℕ, ℤ, Bool, false, not, List, Option, Some, None}
use Rattle.ts_base.specs.declared.ext.Ext.{Ext}
use Rattle.ts_base.specs.declared.goal.Goal.{Goal}
use Rattle.ts_base.specs.declared.goal.Goal.TheVariants.{Maximise, Minimise}
use Rattle.ts_base.specs.Numbers.{ext_le}
use Rattle.ts_domain.specs.BoxSeries.{IsBefore}
use Rattle.ts_model.specs.Meets.{Meets, value_at}
use Rattle.ts_model.specs.ModelParts.{ModelParts}

abbrev pub value_of_term : ModelParts → List ℤ → Option ℕ → Option Ext
value_of_term m x None = None
value_of_term m x (Some term) = value_at m x term

-- the value of the objective on a series; none where the model has no objective
abbrev pub objective_of : ModelParts → List ℤ → Option Ext
objective_of m x = value_of_term m x m.objective

-- v is better than w: greater where the greatest is best, less where the least is
abbrev pub is_better : Goal → Ext → Ext → Bool
is_better Maximise v w = not (ext_le v w)
is_better Minimise v w = not (ext_le w v)

-- it meets, no series that meets has a better objective, and each other one with the same objective comes later
pub record FirstBest (m : ModelParts) (goal : Goal) (x : List ℤ) : Type 0 where
  pub meets : Meets m x
  pub value : Ext
  pub is : objective_of m x ≡ Some value
  pub best : (y : List ℤ) (v : Ext) → Meets m y → objective_of m y ≡ Some v → is_better goal v value ≡ false
  pub first : (y : List ℤ) → Meets m y → objective_of m y ≡ Some value → (x ≡ y) ⊎ IsBefore x y
