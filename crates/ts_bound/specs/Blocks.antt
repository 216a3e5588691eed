-- The spans of one value of a cell from its hulls: a list of hulls has one for each state.
use Rattle.std.specs.Prelude.{◌≡◌, ℕ, ℤ, List, [], length, map, flat_map, get_or, Option, None, Some}
use Rattle.std.specs.List.{range_with_len}
use Rattle.ts_base.specs.declared.range.Range.{Range}
use Rattle.ts_base.specs.declared.span.Span.{Span}
use Rattle.ts_base.specs.Spans.{none_span}
use Rattle.ts_automaton.specs.declared.regs.Hull.{Hull}
use Rattle.ts_automaton.specs.Registers.{spans_of}
use Rattle.ts_automaton.specs.Body.{Body}
use Rattle.ts_automaton.specs.AutomatonRun.{Standing}
use Rattle.ts_automaton.specs.SpanRun.{finish_span_of}
use Rattle.ts_glue.specs.Pairs.{Pair}
use Rattle.ts_glue.specs.Glued.{glued_span}
use Rattle.ts_hull.specs.Hulls.{none}
use Rattle.ts_meet.specs.Meets.{hull_of_spans}
use Rattle.ts_bound.specs.HullTables.{hulls_at, cells_before, cells_after, backward_table}

-- the state q with its hull
abbrev pub standing_of : List Hull → ℕ → Standing Span
standing_of hulls q = record { state = q; regs = spans_of (get_or hulls q none) }

-- the glued span, of a machine that can be split
abbrev pub glued_by : Option Pair → Standing Span → Standing Span → ℤ → ℕ → Span
glued_by None left right x n = none_span
glued_by (Some p) left right x n = glued_span p left right x n

-- the finish spans of the first m states
unfoldable pub finishes : Body → List Hull → ℕ → ℕ → List Span
finishes b hulls n m = map (λ q. finish_span_of b (standing_of hulls q) n) (range_with_len 0 m)

-- the glued spans of a state with its hull and of the first m states on the other side
unfoldable pub glued_with : Option Pair → Standing Span → List Hull → ℤ → ℕ → ℕ → List Span
glued_with p left right x n m = map (λ r. glued_by p left (standing_of right r) x n) (range_with_len 0 m)

-- the glued spans of the first k states and of m on the other side
unfoldable pub glued_all : Option Pair → List Hull → List Hull → ℤ → ℕ → ℕ → ℕ → List Span
glued_all p left right x n m k = flat_map (λ q. glued_with p (standing_of left q) right x n m) (range_with_len 0 k)

-- what is said of the reverse body, where there is one
abbrev pub OfReverse : Option Pair → (Body → Type 0) → Type 0
OfReverse None P = ⊥
OfReverse (Some p) P = P p.reverse

-- the rows are those of the reverse automaton
abbrev pub AreBackRows : Option Pair → Option Range → List (List ℤ) → List (List Hull) → Type 0
AreBackRows p window cells rows = OfReverse p (λ b. rows ≡ backward_table b window cells)

-- the hulls of the value v for a reverse automaton, and the number of its states
abbrev pub back_hulls : Option Pair → List (List ℤ) → ℤ → List Hull
back_hulls None behind v = []
back_hulls (Some p) behind v = hulls_at p.reverse behind v

abbrev pub back_states : Option Pair → ℕ
back_states None = 0
back_states (Some p) = length p.reverse.states

-- the span at the value v of cell k, glued
unfoldable pub split_at : Body → Option Pair → ℕ → List (List ℤ) → ℤ → Span
split_at b p k cells v =
    hull_of_spans
    (glued_all p (hulls_at b (cells_before k cells) v) (back_hulls p (cells_after k cells) v) v (length cells)
    (back_states p) (length b.states))

-- the span at the value v of the last cell
unfoldable pub last_at : Body → ℕ → List (List ℤ) → ℤ → Span
last_at b k cells v =
    hull_of_spans (finishes b (hulls_at b (cells_before k cells) v) (length cells) (length b.states))
