-- The hulls of all series of a box: at each cell, for each of its values and each state, the hull of the registers that
-- runs over series up to that cell can have there.
use Rattle.std.specs.Prelude.{ℕ, ◌-◌, ℤ, nat_eq, if◌then◌else◌, List, [], ◌∷◌, map, flat_map, take, drop}
use Rattle.std.specs.Prelude.{length, reverse, Option}
use Rattle.ts_base.specs.declared.range.Range.{Range}
use Rattle.ts_base.specs.Windows.{looked_at}
use Rattle.ts_automaton.specs.declared.regs.Hull.{Hull}
use Rattle.ts_automaton.specs.Body.{Body}
use Rattle.ts_automaton.specs.SpanRun.{one_hull}
use Rattle.ts_hull.specs.Hulls.{hull_of, none}
use Rattle.ts_bound.specs.NextRow.{source, states_of, next_hull}
use Rattle.ts_bound.specs.Rows.{windowed}

-- at the cell where a run starts: the start registers, in the start state alone
unfoldable pub start_hull : Body → ℕ → Hull
start_hull b q = if nat_eq q 0 then hull_of (one_hull b.start) else none

-- the hull of value v and state q at a cell. A run reads the cells `before` it, of which the nearest stands first; the
-- hull is over all values u of the nearest and all states p, of what the hull there gives
unfoldable pub hull_at : Body → List (List ℤ) → ℤ → ℕ → Hull
hull_at b [] v q = start_hull b q
hull_at b (us ∷ before) v q =
    next_hull b (flat_map (λ u. map (λ p. source u p (hull_at b before u p)) (states_of b)) us) v q

-- the hulls of value v, one for each state
unfoldable pub hulls_at : Body → List (List ℤ) → ℤ → List Hull
hulls_at b before v = map (hull_at b before v) (states_of b)

-- the row of a cell with these values
unfoldable pub row_of : Body → List (List ℤ) → List ℤ → List Hull
row_of b before values = flat_map (hulls_at b before) values

-- the sets of values of the cells before cell k, and of those after it, the nearest first
abbrev pub cells_before : ℕ → List (List ℤ) → List (List ℤ)
cells_before k cells = reverse (take (k - 1) cells)

abbrev pub cells_after : ℕ → List (List ℤ) → List (List ℤ)
cells_after k cells = drop k cells

-- the row of each cell, for an automaton that reads the cells from the first to the last
unfoldable pub rows_behind : Body → List (List ℤ) → List (List ℤ) → List (List Hull)
rows_behind b before [] = []
rows_behind b before (values ∷ cells) = row_of b before values ∷ rows_behind b (values ∷ before) cells

abbrev pub forward_rows : Body → List (List ℤ) → List (List Hull)
forward_rows b cells = rows_behind b [] cells

-- the row of each cell, for an automaton that reads the cells from the last to the first
unfoldable pub backward_rows : Body → List (List ℤ) → List (List Hull)
backward_rows b [] = []
backward_rows b (values ∷ cells) = row_of b cells values ∷ backward_rows b cells

-- the box without the values of the cells that aren't looked at
abbrev pub only_looked : Option Range → List (List ℤ) → List (List ℤ)
only_looked window cells = windowed window (length cells) (looked_at window cells)

-- the tables of a box for an automaton that looks at these cells alone: the rows of the others are empty
abbrev pub forward_table : Body → Option Range → List (List ℤ) → List (List Hull)
forward_table b window cells = windowed window (length cells) (forward_rows b (looked_at window cells))

abbrev pub backward_table : Body → Option Range → List (List ℤ) → List (List Hull)
backward_table b window cells = windowed window (length cells) (backward_rows b (looked_at window cells))
