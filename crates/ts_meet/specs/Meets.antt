-- The spans at a value of a cell from the rows of both sides there.
use Rattle.std.specs.Prelude.{◌≡◌, ◌<◌, ℕ, ℤ, List, [], length, map, flat_map, fold, get_or}
use Rattle.std.specs.List.{range_with_len}
use Rattle.ts_base.specs.declared.span.Span.{Span}
use Rattle.ts_base.specs.Spans.{none_span, span_hull}
use Rattle.ts_automaton.specs.AutomatonRun.{Standing}
use Rattle.ts_automaton.specs.Body.{Body}
use Rattle.ts_automaton.specs.Registers.{EachOf, spans_of}
use Rattle.ts_automaton.specs.SpanRun.{finished_span, marked_span}
use Rattle.ts_glue.specs.Pairs.{Pair}
use Rattle.ts_glue.specs.Glued.{glue_span_at}
use Rattle.ts_row.specs.Rows.{hull_in, lanes_of, nothing}
use Rattle.ts_sweep.specs.declared.packed.PackedHull.{PackedHull}
use Rattle.ts_sweep.specs.Packed.{IsPacked}
use Rattle.ts_sweep.specs.Sides.{Sides, lane_count, seen, sides}

-- there is a packed hull for each of `states` states at place i of a row
pub record HasPlace (n states i : ℕ) (row : List (List (PackedHull n))) : Type 0 where
  pub len : length row ≡ states
  pub inside : (q : ℕ) → q < states → i < length (get_or row q [])
  pub packed : (q : ℕ) → q < states → IsPacked (lane_count n) (lanes_of n (get_or (get_or row q []) i (nothing n)))

-- a state with the spans of its registers; the state q with its hull at place i
abbrev pub standing : ℕ → EachOf Span → Standing Span
standing q regs = record { state = q; regs = regs }

abbrev pub standing_in : (n : ℕ) → List (List (PackedHull n)) → ℕ → ℕ → Standing Span
standing_in n row q i = standing q (spans_of (hull_in n row q i))

-- what is seen of the span of two states that meet and of the finish span of one, under the mark
abbrev pub glued_seen : Sides → Pair → Standing Span → Standing Span → ℤ → ℕ → Span
glued_seen s p left right x n = marked_span p.forward.mark n (seen s (glue_span_at p left right x))

abbrev pub finish_seen : Sides → Body → Standing Span → ℕ → Span
finish_seen s b st n = marked_span b.mark n (seen s (finished_span b st.regs))

-- the glued spans of a state with its hull and of the first m states on the other side, at the value x of place i
unfoldable pub spans_with : (n : ℕ) → Pair → Standing Span → List (List (PackedHull n)) → ℕ → ℤ → ℕ → ℕ → List Span
spans_with n p left right i x cells m =
    map (λ r. glued_seen (sides n) p left (standing_in n right r i) x cells) (range_with_len 0 m)

-- the glued spans of the first k states and of m on the other side
unfoldable pub spans_between :
    (n : ℕ) → Pair → (left right : List (List (PackedHull n))) → ℕ → ℤ → ℕ → ℕ → ℕ → List Span
spans_between n p left right i x cells m k =
    flat_map (λ q. spans_with n p (standing_in n left q i) right i x cells m) (range_with_len 0 k)

-- the finish spans of the first k states
unfoldable pub finishes_in : (n : ℕ) → Body → List (List (PackedHull n)) → ℕ → ℕ → ℕ → List Span
finishes_in n b row i cells k = map (λ q. finish_seen (sides n) b (standing_in n row q i) cells) (range_with_len 0 k)

-- the hull of spans, in their order; none where there is none
abbrev pub hull_of_spans : List Span → Span
hull_of_spans ss = fold span_hull none_span ss

-- the hull of all glued spans, and of all finish spans
abbrev pub glued_hull : (n : ℕ) → Pair → (left right : List (List (PackedHull n))) → ℕ → ℤ → ℕ → Span
glued_hull n p left right i x cells =
    hull_of_spans (spans_between n p left right i x cells (length p.reverse.states) (length p.forward.states))

abbrev pub finish_hull : (n : ℕ) → Body → List (List (PackedHull n)) → ℕ → ℕ → Span
finish_hull n b row i cells = hull_of_spans (finishes_in n b row i cells (length b.states))
