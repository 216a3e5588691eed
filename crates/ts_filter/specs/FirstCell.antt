-- The first cell below the last at which the span of a machine is excluded.
use Rattle.std.specs.Prelude.{ℕ, ◌<◌, ◌≤◌, length, Option, Some, None}
use Rattle.ts_base.specs.declared.span.Span.{Span}
use Rattle.ts_bound.specs.TermSpans.{Automata, term_span, IsUsable}
use Rattle.ts_filter.specs.Boxes.{Box}

-- a cell below the last that may be used, at which the span is excluded
pub record IsEarly (a : Automata) (Excluded : Span → Type 0) (b : Box) (p : ℕ) : Type 0 where
  pub usable : IsUsable a p b
  pub below : p < length b
  pub excluded : Excluded (term_span a p b)

-- no cell before p is one at which the span is excluded
abbrev pub NoneBefore : Automata → (Span → Type 0) → Box → ℕ → Type 0
NoneBefore a Excluded b p = (q : ℕ) → IsEarly a Excluded b q → p ≤ q

-- the least cell below the last at which the span is excluded; none where there is none, as for every machine that
-- can't be split
abbrev pub IsFirstCell : Automata → (Span → Type 0) → Box → Option ℕ → Type 0
IsFirstCell a Excluded b None = (p : ℕ) → IsEarly a Excluded b p → ⊥
IsFirstCell a Excluded b (Some p) =
    IsEarly a Excluded b p × ((q : ℕ) → IsEarly a Excluded b q → p ≤ q)
