-- The hull of the spans of many values of a cell.
use Rattle.std.specs.Prelude.{◌+◌, ℕ, ℤ, pos, List, length, map, fold, get_or}
use Rattle.std.specs.List.{range_with_len}
use Rattle.ts_base.specs.declared.span.Span.{Span}
use Rattle.ts_base.specs.Spans.{span_hull}
use Rattle.ts_automaton.specs.Body.{Body}
use Rattle.ts_glue.specs.Pairs.{Pair}
use Rattle.ts_sweep.specs.declared.packed.PackedHull.{PackedHull}
use Rattle.ts_sweep.specs.Sides.{sides}
use Rattle.ts_meet.specs.Meets.{finish_hull, finish_seen, finishes_in, glued_hull, glued_seen, hull_of_spans, spans_between, spans_with}
use Rattle.ts_meet.specs.Settled.{with_hull_at}

-- the hull of the first `count` spans, counted from 0
unfoldable pub hull_over : (ℕ → Span) → ℕ → Span
hull_over f count = hull_of_spans (map f (range_with_len 0 count))

-- the hull of all glued spans at the places from one on where these values are
abbrev pub glued_along : (n : ℕ) → Pair → (left right : List (List (PackedHull n))) → ℕ → List ℤ → ℕ → Span
glued_along n p left right from values cells =
    hull_over (λ i. glued_hull n p left right (from + i) (get_or values i (pos 0)) cells) (length values)

-- the hull of the glued spans of one pair of states, at the first m of the places from a given one on
abbrev pub pair_along :
    (n : ℕ) → Pair → (q r : ℕ) → (left right : List (PackedHull n)) → ℕ → List ℤ → (cells m : ℕ) → Span
pair_along n p q r left right from values cells m =
    hull_over
    (λ i. glued_seen (sides n) p (with_hull_at n q left (from + i)) (with_hull_at n r right (from + i))
    (get_or values i (pos 0)) cells)
    m

-- what is known at each place with the glued spans of a state on the left and of the first m on the right
abbrev pub with_along :
    (n : ℕ) → Pair → ℕ → List (PackedHull n) → List (List (PackedHull n)) → ℕ → List ℤ → (cells m : ℕ) →
    (ℕ → Span) → ℕ → Span
with_along n p q left right from values cells m so_far i =
    fold span_hull (so_far i)
    (spans_with n p (with_hull_at n q left (from + i)) right (from + i) (get_or values i (pos 0)) cells m)

-- the glued spans at each place of the first k states on the left and of all on the right
abbrev pub between_along :
    (n : ℕ) → Pair → (left right : List (List (PackedHull n))) → ℕ → List ℤ → (cells k : ℕ) → ℕ → Span
between_along n p left right from values cells k i =
    hull_of_spans
    (spans_between n p left right (from + i) (get_or values i (pos 0)) cells (length p.reverse.states) k)

-- the hull of all finish spans at `count` places from `from` on
abbrev pub finish_along : (n : ℕ) → Body → List (List (PackedHull n)) → (from count cells : ℕ) → Span
finish_along n b row from count cells = hull_over (λ i. finish_hull n b row (from + i) cells) count

-- the hull of the finish spans of one state at the first m places from `from` on, and at each place of the first k
-- states
abbrev pub column_finish : (n : ℕ) → Body → ℕ → List (PackedHull n) → (from cells m : ℕ) → Span
column_finish n b q hulls from cells m =
    hull_over (λ i. finish_seen (sides n) b (with_hull_at n q hulls (from + i)) cells) m

abbrev pub finishes_along : (n : ℕ) → Body → List (List (PackedHull n)) → (from cells k : ℕ) → ℕ → Span
finishes_along n b row from cells k i = hull_of_spans (finishes_in n b row (from + i) cells k)
