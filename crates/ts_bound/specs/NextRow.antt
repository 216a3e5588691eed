-- One row of hulls from the row before. The row of a cell has the hulls of its values, one value after the other in
-- rising order, and of each value a hull for each state.
use Rattle.std.specs.Prelude.{ℕ, suc, ℤ, nat_eq, if◌then◌else◌, List, [], ◌∷◌, ◌++◌, length, map, take, drop, flat_map}
use Rattle.std.specs.List.{range_with_len, AllByRecursion}
use Rattle.ts_base.specs.declared.span.Span.{Span}
use Rattle.ts_automaton.specs.declared.regs.Hull.{Hull}
use Rattle.ts_automaton.specs.Registers.{spans_of}
use Rattle.ts_automaton.specs.Body.{Body}
use Rattle.ts_automaton.specs.AutomatonRun.{Standing}
use Rattle.ts_automaton.specs.SpanRun.{HullStands, span_step}
use Rattle.ts_hull.specs.Hulls.{hull_of, none, hull_of_all}

-- the places of the states
abbrev pub states_of : Body → List ℕ
states_of b = range_with_len 0 (length b.states)

-- a hull, with the value of its cell and the state that it is for
pub record Source : Type 0 where
  pub value : ℤ
  pub state : ℕ
  pub hull : Hull

abbrev pub source : ℤ → ℕ → Hull → Source
source v q h = record { value = v; state = q; hull = h }

-- where runs stand that come from a source: the state, with the spans of the hull
abbrev pub standing_at : Source → Standing Span
standing_at s = record { state = s.state; regs = spans_of s.hull }

-- the hulls of one value, from state q on
unfoldable pub sources_from : ℤ → ℕ → List Hull → List Source
sources_from v q [] = []
sources_from v q (h ∷ hs) = source v q h ∷ sources_from v (suc q) hs

-- the hulls of a row, n of them for each value
unfoldable pub sources : ℕ → List ℤ → List Hull → List Source
sources n [] row = []
sources n (v ∷ vs) row = sources_from v 0 (take n row) ++ sources n vs (drop n row)

-- what a hull gives to the state q at the next value w: what its move makes of it, where that leads to q, else none
unfoldable pub hull_from : Body → ℤ → ℕ → Source → Hull
hull_from b w q s =
    let to = span_step b (standing_at s) s.value w in
    if nat_eq to.state q then hull_of to.regs else none

-- the hull of what all hulls give
unfoldable pub next_hull : Body → List Source → ℤ → ℕ → Hull
next_hull b from w q = hull_of_all (map (hull_from b w q) from)

-- the hulls of the next value w, one for each state
unfoldable pub next_hulls : Body → List Source → ℤ → List Hull
next_hulls b from w = map (next_hull b from w) (states_of b)

-- the row of the values `next` from the row of the values `before`
unfoldable pub next_row : Body → List ℤ → List Hull → List ℤ → List Hull
next_row b before row next = flat_map (next_hulls b (sources (length b.states) before row)) next

-- each hull of a row is none or has the kinds of its state
abbrev pub RowStands : Body → List ℤ → List Hull → Type 0
RowStands b values row = AllByRecursion (λ s. HullStands b (standing_at s)) (sources (length b.states) values row)
