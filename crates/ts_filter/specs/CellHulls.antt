-- The hulls of one cell: its row of the forward automaton, and that of the reverse one.
use Rattle.std.specs.Prelude.{◌≡◌, ◌≤◌, ◌-◌, ℕ, ℤ, List, length, map, take, drop, Option, None, Some, MatchOption, slice_get}
use Rattle.ts_base.specs.declared.span.Span.{Span}
use Rattle.ts_base.specs.Windows.{looked_at}
use Rattle.ts_bound.specs.HullTables.{cells_before, cells_after}
use Rattle.ts_bound.specs.Laws.{AreAutomata}
use Rattle.ts_bound.specs.Looks.{count_looked, first_looked, last_looked, place_in}
use Rattle.ts_bound.specs.TermSpans.{Automata, LooksIn, value_span}
use Rattle.ts_glue.specs.Pairs.{Pair}
use Rattle.ts_meet.specs.Joints.{AreJoints}
use Rattle.ts_meet.specs.Settled.{Between}
use Rattle.ts_meet.specs.Meets.{hull_of_spans}
use Rattle.ts_sweep.specs.Sides.{Sides}
use Rattle.ts_bound.specs.declared.any_row.AnyRow.{AnyRow}
use Rattle.ts_bound.specs.AnyRows.{IsRowOf, form_of, viewed}
use Rattle.ts_filter.specs.declared.cell_hulls.BackSide.{BackSide}
use Rattle.ts_filter.specs.declared.question.Question.{Question}
use Rattle.ts_filter.specs.Alike.{FindsAlike, IsServed}
use Rattle.ts_filter.specs.Boxes.{Box, values_at}
use Rattle.ts_filter.specs.Question.{Excludes}

-- what contracts see of the hulls of a cell: whose they are, where, and which ends they have
pub record AtCell : Type 0 where
  pub machine : Automata
  pub cells : Box
  pub cell : ℕ
  pub ends : Sides

abbrev pub at_cell : Automata → Box → ℕ → Sides → AtCell
at_cell a b k ends = record { machine = a; cells = b; cell = k; ends = ends }

-- the ends of the hulls are enough for the question
abbrev pub Serves : AtCell → Question → Type 0
Serves t asked =
    IsServed t.ends t.machine.forward.mark (count_looked t.machine.window (length t.cells)) asked

-- the machine has hulls at cell k: it looks at that cell, and where it can't be split, at none after it
pub record HasHulls (a : Automata) (k : ℕ) (b : Box) : Type 0 where
  pub looks : LooksIn a b
  pub from : first_looked a.window ≤ k
  pub to : k ≤ last_looked a.window (length b)
  pub last : a.pair ≡ None → k ≡ last_looked a.window (length b)

-- the cells before cell k that are looked at, and those after it, the nearest first
abbrev pub seen_before : Automata → ℕ → Box → Box
seen_before a k b = cells_before (place_in a.window k) (looked_at a.window b)

abbrev pub seen_after : Automata → ℕ → Box → Box
seen_after a k b = cells_after (place_in a.window k) (looked_at a.window b)

-- the row is that of cell k of the forward automaton, which reads the cells before it
abbrev pub IsAheadRow : Automata → ℕ → Box → AnyRow → Type 0
IsAheadRow a k b row = IsRowOf a.forward (seen_before a k b) (values_at k b) row

-- a row of the other side has the same form
abbrev pub HasForm : Option BackSide → AnyRow → Type 0
HasForm None row = Unit {0}
HasForm (Some side) row = form_of (viewed side.row) ≡ form_of row

-- a row of the reverse automaton of a pair, of a cell with these values before which it reads these cells, with how the
-- pair is glued
abbrev pub IsSide : Option Pair → Box → List ℤ → BackSide → Type 0
IsSide None behind values side = ⊥
IsSide (Some p) behind values side = AreJoints p side.joints.now × IsRowOf p.reverse behind values (viewed side.row)

-- the row is that of cell k of the reverse automaton, which reads the cells after it, with how the pair is glued
abbrev pub IsBackSide : Automata → ℕ → Box → BackSide → Type 0
IsBackSide a k b side = IsSide a.pair (seen_after a k b) (values_at k b) side

-- the automata keep their rules, and the rows are those of the cell; the last cell that is looked at needs none of the
-- reverse automaton
pub record AreHulls (a : Automata) (b : Box) (k : ℕ) (row : AnyRow) (back : Option BackSide) : Type 0 where
  pub whole : AreAutomata a
  pub form : HasForm back row
  pub there : HasHulls a k b
  pub ahead : IsAheadRow a k b row
  pub behind : MatchOption back (k ≡ last_looked a.window (length b)) (IsBackSide a k b)

-- at each place from `from` on, before `to`, the span of the value that stands there has what is asked
abbrev pub AreMet : Question → AtCell → (from to : ℕ) → Type 0
AreMet asked t from to =
    Between from to (λ i. (v : ℤ) → slice_get (values_at t.cell t.cells) i ≡ Some v →
    Excludes asked (value_span t.machine t.cell t.cells v) → ⊥)

-- the values at the places from `from` on, before `to`
abbrev pub places_of : (from to : ℕ) → List ℤ → List ℤ
places_of from to values = take (to - from) (drop from values)

-- each question that these ends serve finds the same in a span as in the hull of the spans f of these values
abbrev pub FindsAll : (Question → Type 0) → Span → (ℤ → Span) → List ℤ → Type 0
FindsAll Serves s f values = (asked : Question) → Serves asked → FindsAlike asked s (hull_of_spans (map f values))
