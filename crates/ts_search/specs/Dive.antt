-- The dive: to one series, by keeping the most promising value of each cell and dropping what is refuted.
use Rattle.std.specs.Prelude.{ℕ, zero, suc, ℤ, pos, cond, List, [], ◌∷◌, length, Option, Some, None}
use Rattle.std.specs.Prelude.{unwrap_or}
use Rattle.ts_base.specs.declared.ext.Ext.{Ext}
use Rattle.ts_base.specs.declared.ext.Ext.TheVariants.{NegInf}
use Rattle.ts_base.specs.declared.goal.Goal.{Goal}
use Rattle.ts_domain.specs.Values.{least_of}
use Rattle.ts_model.specs.FirstBest.{objective_of, is_better}
use Rattle.ts_model.specs.Judgement.{is_met}
use Rattle.ts_model.specs.ModelParts.{ModelParts}
use Rattle.ts_filter.specs.Boxes.{Box, values_at, only}
use Rattle.ts_filter.specs.Ends.{best_end}
use Rattle.ts_filter.specs.RefutedWorseDrop.{Spans}
use Rattle.ts_search.specs.Drops.{after_drops}
use Rattle.ts_frontier.specs.Forms.{Form, Alone, Wide, form}

-- a series with the value of the objective on it
pub record Find : Type 0 where
  pub series : List ℤ
  pub value : Ext

-- the value of the objective on a series of the model's box; it stands where the model has an objective
abbrev pub value_of : ModelParts → List ℤ → Ext
value_of m x = unwrap_or (objective_of m x) NegInf

abbrev pub find : ModelParts → List ℤ → Find
find m x = record { series = x; value = value_of m x }

-- the better end of the objective's span at cell k, where the cell has the value v
abbrev pub promise : Spans → Goal → ℕ → ℕ → Box → ℤ → Ext
promise s goal term k b v = best_end goal (s.span_at term k (only k v b))

-- of v and these later values, the first with the best promise
abbrev pub most_promising : (ℤ → Ext) → Goal → ℤ → List ℤ → ℤ
most_promising promise goal v [] = v
most_promising promise goal v (u ∷ values) =
    most_promising promise goal (cond (is_better goal (promise u) (promise v)) u v) values

abbrev pub best_value : (ℤ → Ext) → Goal → List ℤ → ℤ
best_value promise goal [] = pos 0
best_value promise goal (v ∷ values) = most_promising promise goal v values

-- the value that cell k keeps: the least one where the objective isn't reversible
abbrev pub kept_for : Spans → Goal → ℕ → Box → Option ℕ → ℤ
kept_for s goal k b None = least_of (values_at k b)
kept_for s goal k b (Some term) =
    cond (s.reversible term) (best_value (promise s goal term k b) goal (values_at k b)) (least_of (values_at k b))

abbrev pub kept_value : ModelParts → Spans → Goal → ℕ → Box → ℤ
kept_value m s goal k b = kept_for s goal k b m.objective

abbrev pub keep_one : ModelParts → Spans → Goal → ℕ → Box → Box
keep_one m s goal k b = after_drops m s (only k (kept_value m s goal k b) b)

-- n cells from k on keep one value each
abbrev pub keep_from : ModelParts → Spans → Goal → ℕ → ℕ → Box → Box
keep_from m s goal zero k b = b
keep_from m s goal (suc n) k b = keep_from m s goal n (suc k) (keep_one m s goal k b)

abbrev pub dive_box : ModelParts → Spans → Goal → Box
dive_box m s goal = keep_from m s goal (length m.cells) 1 (after_drops m s m.cells)

-- the one series that is left, where it meets
abbrev pub dive_end : ModelParts → Form → Option Find
dive_end m (Alone x) = cond (is_met m x) (Some (find m x)) None
dive_end m (Wide k t) = None

abbrev pub dive : ModelParts → Spans → Goal → Option Find
dive m s goal = dive_end m (form (dive_box m s goal))
