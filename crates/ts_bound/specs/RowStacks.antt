-- Rows on top of one another, of which the first are known.
use Rattle.std.specs.Prelude.{◌≡◌, ℕ, ◌+◌, ◌*◌, ◌<◌, ◌≤◌, ◌≢◌, ◌⊎◌, ℤ, false, IsTrue, List, [], ◌∷◌, ◌++◌, length, map, take, drop, reverse, get_or, Option, None, Some}
use Rattle.std.specs.List.{remove_range, slice_range}
use Rattle.ts_automaton.specs.declared.regs.Hull.{Hull}
use Rattle.ts_automaton.specs.Body.{Body}
use Rattle.ts_automaton.specs.Typing.{is_automaton}
use Rattle.ts_domain.specs.Boxes.{Box}
use Rattle.ts_sweep.specs.Sides.{Sides, BothEnds}
use Rattle.ts_row.specs.Plans.{IsPlanOf}
use Rattle.ts_row.specs.Rows.{IsRow, flat_row}
use Rattle.ts_bound.specs.HullTables.{forward_rows, row_of}
use Rattle.ts_bound.specs.NextRow.{next_row}
use Rattle.ts_bound.specs.PackedRows.{seen_row}
use Rattle.ts_bound.specs.declared.gone.Gone.{Gone}
use Rattle.ts_bound.specs.declared.planned.Planned.{Planned}
use Rattle.ts_bound.specs.declared.row_stack.HullRow.{HullRow}
use Rattle.ts_bound.specs.declared.any_row.AnyRow.{AnyRow}
use Rattle.ts_bound.specs.AnyRows.{IsFormOf, columns, form_of, form_sides, lanes_of, row_part}

-- an automaton, and which ends are kept of the hulls of its registers
pub record Sight : Type 0 where
  pub body : Body
  pub ends : Sides

abbrev pub sight : Body → Sides → Sight
sight a ends = record { body = a; ends = ends }

-- one end alone is kept of the hulls of a narrow automaton only
pub record IsSound (a : Sight) : Type 0 where
  pub rules : IsTrue (is_automaton a.body)
  pub alone : (a.ends ≡ BothEnds) ⊎ (a.body.wide ≡ false)

-- an automaton with the ends that are kept in the form that is planned
abbrev pub seen_by : Body → Planned → Sight
seen_by a p = sight a (form_sides p.form)

-- the plan is that of the automaton, and so is the number of states; the form suits the automaton
pub record IsPlanned (a : Body) (p : Planned) : Type 0 where
  pub plan : IsPlanOf a p.plan
  pub states : p.states ≡ length a.states
  pub some : 0 < p.states
  pub form : IsFormOf a.wide p.form
  pub sound : IsSound (seen_by a p)

-- of how many values a row is, where it has a state
abbrev pub values_in : AnyRow → ℕ
values_in row = length (get_or (columns row) 0 [])

-- a row has the states and the form that are planned
pub record HasStates (p : Planned) (row : AnyRow) : Type 0 where
  pub form : form_of row ≡ p.form
  pub is_row : IsRow (lanes_of row) p.states (values_in row) (columns row)

-- the hulls of a row with this many states in a list, value by value
abbrev pub hulls_in : ℕ → AnyRow → List Hull
hulls_in states row = flat_row (lanes_of row) states (values_in row) (columns row)

abbrev pub Rows : Type 0
Rows = List (List Hull)

-- what a row shows: the hulls at some of the places of a packed row
abbrev pub shown : HullRow → AnyRow
shown r = row_part r.from r.to r.packed

abbrev pub all_hulls : ℕ → List HullRow → Rows
all_hulls states rows = map (λ (r : HullRow). hulls_in states (shown r)) rows

-- the whole row has the states and the form that are planned, and the places that are shown
pub record IsLaid (p : Planned) (r : HullRow) : Type 0 where
  pub states : HasStates p r.packed
  pub count : values_in r.packed ≡ r.count
  pub from : r.from ≤ r.to
  pub to : r.to ≤ r.count

-- the values for which a whole row was made, and its hulls; where these values aren't kept there are none
pub record Kept : Type 0 where
  pub values : List ℤ
  pub hulls : List Hull

abbrev pub nothing_kept : Kept
nothing_kept = record { values = []; hulls = [] }

abbrev pub kept_in : ℕ → HullRow → Kept
kept_in states r = record { values = r.values.items; hulls = hulls_in states r.packed }

abbrev pub all_kept : ℕ → List HullRow → List Kept
all_kept states rows = map (kept_in states) rows

-- what is kept at a place
abbrev pub kept_at : List Kept → ℕ → Kept
kept_at kept i = get_or kept i nothing_kept

-- no values are kept from place n on
abbrev pub NoneKept : ℕ → List Kept → Type 0
NoneKept n kept = (i : ℕ) → n ≤ i → (kept_at kept i).values ≡ []

-- rows that may be of other boxes; from place `from` on each is the next row after the one before
pub record Laid : Type 0 where
  pub rows : Rows
  pub from : ℕ

-- what is seen of the rows of these cells, and of the row of the next cell
abbrev pub rows_seen : Sight → Box → Rows
rows_seen a cells = map (seen_row a.ends) (forward_rows a.body cells)

abbrev pub next_seen : Sight → List ℤ → List Hull → List ℤ → List Hull
next_seen a values row next_values = seen_row a.ends (next_row a.body values row next_values)

-- the row at place i + 1 is the next one after that at place i
abbrev pub IsFollowed : Sight → Box → Rows → ℕ → Type 0
IsFollowed a cells rows i =
    get_or rows (i + 1) [] ≡ next_seen a (get_or cells i []) (get_or rows i []) (get_or cells (i + 1) [])

-- there are no more rows than cells, and from a place on each row is followed by its next one over these cells
pub record GoOn (a : Sight) (cells : Box) (rows : Rows) (from : ℕ) : Type 0 where
  pub few : length rows ≤ length cells
  pub each : (i : ℕ) → from ≤ i → i + 1 < length rows → IsFollowed a cells rows i

-- the whole row is that of a cell with the kept values, at place i after these cells
abbrev pub IsKept : Sight → Box → ℕ → Kept → Type 0
IsKept a cells i k =
    0 < length k.values → k.hulls ≡ seen_row a.ends (row_of a.body (reverse (take i cells)) k.values)

abbrev pub AreKept : Sight → Box → List Kept → Type 0
AreKept a cells kept = (i : ℕ) → IsKept a cells i (kept_at kept i)

-- what the rows are made by, the known rows, all that lie there, and what is kept of these
pub record Stack : Type 0 where
  pub planned : Planned
  pub known : Rows
  pub laid : Laid
  pub kept : List Kept

abbrev pub nothing_laid : Laid
nothing_laid = record { rows = []; from = 0 }

abbrev pub no_rows : Planned → Stack
no_rows p = record { planned = p; known = []; laid = nothing_laid; kept = [] }

-- a row at a place, above the last one or in the place of another
abbrev pub with_row : {X : Type 0} → ℕ → X → List X → List X
with_row at row rows = take at rows ++ row ∷ drop (at + 1) rows

-- the row lies on top of the known ones, and the rows above go on from it
pub record Stands (row : List Hull) (s : Stack) : Type 0 where
  pub known : s.known ≡ take (length s.known) s.laid.rows
  pub there : length s.known < length s.laid.rows
  pub same : get_or s.laid.rows (length s.known) [] ≡ row
  pub from : s.laid.from ≤ length s.known

-- the row is known too, and `here` is kept of it
pub record IsOneMore (row : List Hull) (here : Kept) (old new : Stack) : Type 0 where
  pub planned : new.planned ≡ old.planned
  pub known : new.known ≡ old.known ++ row ∷ []
  pub within : length old.known ≤ length old.laid.rows
  pub rows : new.laid.rows ≡ with_row (length old.known) row old.laid.rows
  pub from : old.laid.from ≤ new.laid.from
  pub above : length old.known < new.laid.from
  pub kept : kept_at new.kept (length old.known) ≡ here
  pub others : (i : ℕ) → i ≢ length old.known → kept_at new.kept i ≡ kept_at old.kept i

-- what was kept up to place `count` is still kept, and nothing beyond
pub record IsForgotten (count : ℕ) (old new : Stack) : Type 0 where
  pub planned : new.planned ≡ old.planned
  pub known : new.known ≡ old.known
  pub laid : new.laid ≡ old.laid
  pub kept : (i : ℕ) → i ≤ count → kept_at new.kept i ≡ kept_at old.kept i
  pub none : NoneKept (count + 1) new.kept

-- only the first `count` rows are still known; from `end` on the rows go on as before; what was kept up to `count`
-- stays
pub record IsTruncated (count end : ℕ) (old new : Stack) : Type 0 where
  pub planned : new.planned ≡ old.planned
  pub known : new.known ≡ take count old.known
  pub rows : new.laid.rows ≡ old.laid.rows
  pub above : end ≤ new.laid.from
  pub from : (old.known ≡ old.laid.rows) ⊎ (old.laid.from ≤ new.laid.from)
  pub kept : (i : ℕ) → i ≤ count → kept_at new.kept i ≡ kept_at old.kept i
  pub none : NoneKept (count + 1) new.kept

-- a row with hulls of `states` states, without those of the values that are gone
abbrev pub without : (states : ℕ) → Gone → List Hull → List Hull
without states g row = remove_range row (g.from * states) (g.to * states)

-- what is kept, without the values at the places from `from` up to `to`
abbrev pub kept_without : (states from to : ℕ) → Kept → Kept
kept_without states from to k = record {
  values = remove_range k.values from to;
  hulls = remove_range k.hulls (from * states) (to * states);
}

-- the row at a place is known
pub record IsKnownAt (at : ℕ) (s : Stack) : Type 0 where
  pub known : at < length s.known
  pub laid : at < length s.laid.rows
  pub same : get_or s.laid.rows at [] ≡ get_or s.known at []

-- what was kept, or the row for the values of its cell
abbrev pub IsFilled : (values : List ℤ) → (row : List Hull) → (old new : Kept) → Type 0
IsFilled values row old new = (new ≡ old) ⊎ (new ≡ record { values = values; hulls = row })

-- what was kept, or what is left of it without some values
abbrev pub IsLessened : (states : ℕ) → (old new : Kept) → Type 0
IsLessened states old new = (new ≡ old) ⊎ ((from : ℕ) × (to : ℕ) × (new ≡ kept_without states from to old))

-- one more is known: the row that lay there, without the values that are gone; its hulls for the values `before`, which
-- were all that it showed, may be kept
pub record IsLess (gone : Gone) (before : List ℤ) (old new : Stack) : Type 0 where
  pub filled : Kept
  pub is_filled : IsFilled before (get_or old.laid.rows (length old.known) [])
      (kept_at old.kept (length old.known)) filled
  pub kept : Kept
  pub is_kept : IsLessened old.planned.states filled kept
  pub more : IsOneMore (without old.planned.states gone (get_or old.laid.rows (length old.known) [])) kept old new

-- the row at place `count` was known, and is known without those values
pub record IsSpliced (count end : ℕ) (gone : Gone) (before : List ℤ) (old new : Stack) : Type 0 where
  pub there : IsKnownAt count old
  pub cut : Stack
  pub is_cut : IsTruncated count end old cut
  pub less : IsLess gone before cut new

-- one more is known: of what is kept there, the hulls of the values `now`, which stand side by side among others
pub record IsShown (now : List ℤ) (old new : Stack) : Type 0 where
  pub there : length old.known < length old.laid.rows
  pub kept : Kept
  pub is_kept : kept ≡ kept_at old.kept (length old.known)
  pub some : 0 < length kept.values
  pub from : ℕ
  pub to : ℕ
  pub values : now ≡ slice_range kept.values from to
  pub more : IsOneMore (slice_range kept.hulls (from * old.planned.states) (to * old.planned.states)) kept old new

abbrev pub MayShow : (now : List ℤ) → (old new : Stack) → Type 0
MayShow now old new = (new ≡ old) ⊎ IsShown now old new

-- only the first `count` rows are still known, and perhaps the next one, whose hulls for its values `now` were kept
pub record IsRestored (count end : ℕ) (now : List ℤ) (old new : Stack) : Type 0 where
  pub cut : Stack
  pub is_cut : IsTruncated count end old cut
  pub more : (new ≡ cut) ⊎ ((length cut.known ≡ count) × IsShown now cut new)

-- only the first `count` rows are still known. The next one's cell had the values `before` and has the values `now`:
-- where it is known which it has lost, that row may be known too, without those; or where its hulls are kept
abbrev pub IsLeft : (count end : ℕ) → Option Gone → (before now : List ℤ) → (old new : Stack) → Type 0
IsLeft count end None before now old new = IsRestored count end now old new
IsLeft count end (Some gone) before now old new =
    IsRestored count end now old new ⊎ IsSpliced count end gone before old new
