-- The value of a cell that is kept where one is to be chosen.
use Rattle.std.specs.Prelude.{◌≡◌, ◌⊎◌, ℕ, ℤ, ◌≤ℤ◌, true, Contains, Option, Some, None}
use Rattle.ts_base.specs.declared.ext.Ext.{Ext}
use Rattle.ts_base.specs.declared.goal.Goal.{Goal}
use Rattle.ts_bound.specs.TermSpans.{Automata, term_span, value_span}
use Rattle.ts_glue.specs.Pairs.{Pair}
use Rattle.ts_filter.specs.Boxes.{Box, values_at, only}
use Rattle.ts_filter.specs.Ends.{best_end}
use Rattle.ts_model.specs.FirstBest.{is_better}

-- the best number that the span at cell k leaves open on the box with the value v alone there
abbrev pub end_with : Automata → Goal → ℕ → Box → ℤ → Ext
end_with a goal k b v = best_end goal (term_span a k (only k v b))

-- the best number that the span of the value v at cell k leaves open, by the rows of the whole box
abbrev pub end_in : Automata → Goal → ℕ → Box → ℤ → Ext
end_in a goal k b v = best_end goal (value_span a k b v)

-- by their ends, v is kept rather than u: its end is better, or the same, and v isn't greater
abbrev pub IsPreferred : Goal → (ℤ → Ext) → ℤ → ℤ → Type 0
IsPreferred goal end v u = (is_better goal (end v) (end u) ≡ true) ⊎ ((end v ≡ end u) × (v ≤ℤ u))

-- v is kept rather than u: by their ends if the machine can be split, else the lesser value
abbrev pub IsKeptOver : Option Pair → Goal → (ℤ → Ext) → ℤ → ℤ → Type 0
IsKeptOver None goal end v u = v ≤ℤ u
IsKeptOver (Some p) goal end v u = IsPreferred goal end v u

-- v is the value of cell k that is kept
pub record IsKept (a : Automata) (goal : Goal) (k : ℕ) (b : Box) (v : ℤ) : Type 0 where
  pub there : Contains (values_at k b) v
  pub over : (u : ℤ) → Contains (values_at k b) u → IsKeptOver a.pair goal (end_with a goal k b) v u
