-- Refuted, worse and drop: what the spans of a model's terms exclude on a box.
use Rattle.std.specs.Prelude.{◌≡◌, ℕ, ◌-◌, ◌≤◌, ℤ, Bool, false, List, Contains, length, Some, slice_get}
use Rattle.ts_base.specs.declared.ext.Ext.{Ext}
use Rattle.ts_base.specs.declared.goal.Goal.{Goal}
use Rattle.ts_base.specs.declared.span.Span.{Span}
use Rattle.ts_model.specs.declared.model.Require.{Require}
use Rattle.ts_model.specs.ModelParts.{ModelParts}
use Rattle.ts_filter.specs.declared.bar.Bar.{Bar}
use Rattle.ts_filter.specs.declared.bar.Bar.TheVariants.{Better}
use Rattle.ts_filter.specs.Boxes.{Box, HasCell, values_at, only}
use Rattle.ts_filter.specs.Excluded.{Refutes, Cuts}

-- what is known of the terms of a model, each by its place in the text, counted from 0: whether its machine is
-- reversible, and its span at a cell on a box
pub record Spans : Type 0 where
  pub reversible : ℕ → Bool
  pub span_at : ℕ → ℕ → Box → Span

-- cell p may be used for the term: where it isn't reversible, the last one alone
pub record IsUsable (s : Spans) (term p : ℕ) (b : Box) : Type 0 where
  pub cell : HasCell p b
  pub last : s.reversible term ≡ false → p ≡ length b

-- requirement j of these, counted from 1
abbrev pub IsRequirement : List Require → ℕ → Require → Type 0
IsRequirement requirements j r = (1 ≤ j) × (slice_get requirements (j - 1) ≡ Some r)

-- no number in the span of requirement j's term at p compares with the bound as it says
pub record IsRefuted (requirements : List Require) (s : Spans) (j p : ℕ) (b : Box) : Type 0 where
  pub require : Require
  pub is : IsRequirement requirements j require
  pub usable : IsUsable s require.term p b
  pub refutes : Refutes require.op require.bound (s.span_at require.term p b)

-- no number in the objective's span at p counts for the bar
pub record IsCut (m : ModelParts) (s : Spans) (goal : Goal) (p : ℕ) (b : Box) (bar : Bar) : Type 0 where
  pub term : ℕ
  pub is : m.objective ≡ Some term
  pub usable : IsUsable s term p b
  pub cuts : Cuts goal bar (s.span_at term p b)

-- no number in the objective's span at p is better than v
abbrev pub IsWorse : ModelParts → Spans → Goal → ℕ → Box → Ext → Type 0
IsWorse m s goal p b v = IsCut m s goal p b (Better v)

-- cell k has the value v and others, and requirement j is refuted at k on the box with x_k = v
pub record IsDrop (requirements : List Require) (s : Spans) (k : ℕ) (v : ℤ) (j : ℕ) (b : Box) : Type 0 where
  pub cell : HasCell k b
  pub many : 2 ≤ length (values_at k b)
  pub there : Contains (values_at k b) v
  pub refuted : IsRefuted requirements s j k (only k v b)
