-- The span of a machine at a cell of a box: of its answers on the series of the box, as far as the hulls there tell.
use Rattle.std.specs.Prelude.{◌≡◌, ℕ, ◌≤◌, ℤ, List, length, map, flat_map, if◌then◌else◌, Option, None, Some}
use Rattle.ts_base.specs.declared.range.Range.{Range}
use Rattle.ts_base.specs.declared.span.Span.{Span}
use Rattle.ts_base.specs.Windows.{LooksInside, looked_at}
use Rattle.ts_automaton.specs.Registers.{spans_of}
use Rattle.ts_automaton.specs.Body.{Body}
use Rattle.ts_automaton.specs.AutomatonRun.{Standing}
use Rattle.ts_automaton.specs.SpanRun.{finish_span_of}
use Rattle.ts_domain.specs.Boxes.{values_at}
use Rattle.ts_glue.specs.declared.machine.Machine.{Machine}
use Rattle.ts_glue.specs.Pairs.{Pair}
use Rattle.ts_glue.specs.Machines.{forward_of, pair_of, window_of}
use Rattle.ts_glue.specs.Glued.{glued_span}
use Rattle.ts_meet.specs.Meets.{hull_of_spans}
use Rattle.ts_bound.specs.NextRow.{states_of}
use Rattle.ts_bound.specs.HullTables.{hull_at, cells_before, cells_after}
use Rattle.ts_bound.specs.Looks.{is_looked, place_in}

-- a machine as contracts see it: its forward automaton, the pair that it was made of, if it can be split, and its
-- window, if it looks at some of the cells alone
pub record Automata : Type 0 where
  pub forward : Body
  pub pair : Option Pair
  pub window : Option Range

abbrev pub automata_of : Machine → Automata
automata_of m = record { forward = forward_of m; pair = pair_of m; window = window_of m }

-- the window ends at a cell of the box
abbrev pub LooksIn : Automata → List (List ℤ) → Type 0
LooksIn m cells = LooksInside (length cells) m.window

-- the state q with its hull at the value v of a cell
abbrev pub standing_in : Body → List (List ℤ) → ℤ → ℕ → Standing Span
standing_in b before v q = record { state = q; regs = spans_of (hull_at b before v q) }

-- the finish spans at the value v of the last cell, of all states
unfoldable pub finish_spans : Body → ℕ → List (List ℤ) → ℤ → List Span
finish_spans b n before v = map (λ q. finish_span_of b (standing_in b before v q) n) (states_of b)

-- the glued spans at the value v of a cell, of all states of the forward automaton and all of the reverse one
unfoldable pub glued_spans : Pair → ℕ → List (List ℤ) → List (List ℤ) → ℤ → List Span
glued_spans p n before behind v =
    flat_map
    (λ q. map (λ r. glued_span p (standing_in p.forward before v q) (standing_in p.reverse behind v r) v n)
    (states_of p.reverse))
    (states_of p.forward)

-- all spans at the value v of cell k
unfoldable pub spans_at : Body → Option Pair → ℕ → List (List ℤ) → ℤ → List Span
spans_at b None k cells v = finish_spans b (length cells) (cells_before k cells) v
spans_at b (Some p) k cells v = glued_spans p (length cells) (cells_before k cells) (cells_after k cells) v

-- over cells that are all looked at: the span at cell k, with the value v there
unfoldable pub inner_value_span : Automata → ℕ → List (List ℤ) → ℤ → Span
inner_value_span m k cells v = hull_of_spans (spans_at m.forward m.pair k cells v)

-- over cells that are all looked at: the span at cell k, the hull of those of its values
unfoldable pub inner_span : Automata → ℕ → List (List ℤ) → Span
inner_span m k cells = hull_of_spans (map (inner_value_span m k cells) (values_at k cells))

-- the span at cell k of a box: that of the cells that are looked at, at its place there; at a cell outside the window
-- the span at the window's last cell
unfoldable pub term_span : Automata → ℕ → List (List ℤ) → Span
term_span m k cells = inner_span m (place_in m.window k) (looked_at m.window cells)

-- the span at cell k, with the value v there
unfoldable pub value_span : Automata → ℕ → List (List ℤ) → ℤ → Span
value_span m k cells v =
    if is_looked m.window k
    then inner_value_span m (place_in m.window k) (looked_at m.window cells) v
    else term_span m k cells

-- k is a cell at which the machine has a span: any that there is, but the last alone where it can't be split
pub record IsUsable (m : Automata) (k : ℕ) (cells : List (List ℤ)) : Type 0 where
  pub from : 1 ≤ k
  pub to : k ≤ length cells
  pub last : m.pair ≡ None → k ≡ length cells
