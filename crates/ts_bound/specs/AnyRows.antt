-- Packed rows of automata of either width, with both ends of each register or with one.
use Rattle.std.specs.Prelude.{◌≡◌, ℕ, ℤ, Bool, false, List, map}
use Rattle.std.specs.List.{remove_range}
use Rattle.ts_base.specs.declared.span.Span.{Span}
use Rattle.ts_base.specs.Spans.{none_span}
use Rattle.ts_automaton.specs.Body.{Body}
use Rattle.ts_glue.specs.Pairs.{Pair}
use Rattle.ts_sweep.specs.declared.packed.PackedHull.{PackedHull}
use Rattle.ts_sweep.specs.Sides.{Sides, has_wide, sides}
use Rattle.ts_meet.specs.Meets.{glued_hull}
use Rattle.ts_row.specs.Rows.{columns_part}
use Rattle.ts_bound.specs.PackedRows.{IsPackedRow}
use Rattle.ts_bound.specs.declared.any_row.AnyRow.{AnyRow}
use Rattle.ts_bound.specs.declared.any_row.AnyRow.TheVariants.{Narrow, Upper, Lower, Wide}
use Rattle.ts_bound.specs.declared.any_row.AnyView.{AnyView}
use Rattle.ts_bound.specs.declared.any_row.AnyView.TheVariants.{Narrow as NarrowView, Upper as UpperView, Lower as LowerView, Wide as WideView}
use Rattle.ts_bound.specs.declared.any_row.Form.{Form}
use Rattle.ts_bound.specs.declared.any_row.Form.TheVariants.{Narrow as NarrowForm, Upper as UpperForm, Lower as LowerForm, Wide as WideForm}

-- columns of hulls of n lanes
abbrev pub Columns : ℕ → Type 0
Columns n = List (List (PackedHull n))

-- how many lanes hulls of each form have
abbrev pub form_lanes : Form → ℕ
form_lanes NarrowForm = 6
form_lanes UpperForm = 3
form_lanes LowerForm = 4
form_lanes WideForm = 10

-- the ends that hulls of each form show
abbrev pub form_sides : Form → Sides
form_sides f = sides (form_lanes f)

-- the form is one of automata of this width
abbrev pub IsFormOf : Bool → Form → Type 0
IsFormOf wide f = wide ≡ has_wide (form_lanes f)

-- a form of narrow automata
abbrev pub IsNarrowForm : Form → Type 0
IsNarrowForm f = has_wide (form_lanes f) ≡ false

-- the form of a row
abbrev pub form_of : AnyRow → Form
form_of (Narrow row) = NarrowForm
form_of (Upper row) = UpperForm
form_of (Lower row) = LowerForm
form_of (Wide row) = WideForm

-- how many lanes the hulls of a row have
abbrev pub lanes_of : AnyRow → ℕ
lanes_of (Narrow row) = 6
lanes_of (Upper row) = 3
lanes_of (Lower row) = 4
lanes_of (Wide row) = 10

-- the columns of a row
abbrev pub columns : (row : AnyRow) → Columns (lanes_of row)
columns (Narrow row) = row
columns (Upper row) = row
columns (Lower row) = row
columns (Wide row) = row

-- the row of the hulls that are lent
abbrev pub viewed : AnyView → AnyRow
viewed (NarrowView row) = Narrow row
viewed (UpperView row) = Upper row
viewed (LowerView row) = Lower row
viewed (WideView row) = Wide row

-- the row of the hulls at the places from `from` up to `to` of each of its columns
abbrev pub row_part : (from to : ℕ) → AnyRow → AnyRow
row_part from to (Narrow row) = Narrow (columns_part from to row)
row_part from to (Upper row) = Upper (columns_part from to row)
row_part from to (Lower row) = Lower (columns_part from to row)
row_part from to (Wide row) = Wide (columns_part from to row)

-- the columns without the hulls at the places from `from` up to `to`
abbrev pub columns_without : {X : Type 0} → (from to : ℕ) → List (List X) → List (List X)
columns_without from to columns = map (λ column. remove_range column from to) columns

-- the row without the hulls at the places from `from` up to `to` of each of its columns
abbrev pub row_without : (from to : ℕ) → AnyRow → AnyRow
row_without from to (Narrow row) = Narrow (columns_without from to row)
row_without from to (Upper row) = Upper (columns_without from to row)
row_without from to (Lower row) = Lower (columns_without from to row)
row_without from to (Wide row) = Wide (columns_without from to row)

-- the row shows what is seen of the hulls of a cell with these values, after these cells
pub record IsRowOf (a : Body) (before : List (List ℤ)) (values : List ℤ) (row : AnyRow) : Type 0 where
  pub width : a.wide ≡ has_wide (lanes_of row)
  pub packed : IsPackedRow (lanes_of row) a before values (columns row)

-- the hull of the glued spans at the value x of place i, of two rows of one form; rows of two forms have none
abbrev pub glued_between : Pair → AnyRow → AnyRow → ℕ → ℤ → ℕ → Span
glued_between p (Narrow left) (Narrow right) i x cells = glued_hull 6 p left right i x cells
glued_between p (Upper left) (Upper right) i x cells = glued_hull 3 p left right i x cells
glued_between p (Lower left) (Lower right) i x cells = glued_hull 4 p left right i x cells
glued_between p (Wide left) (Wide right) i x cells = glued_hull 10 p left right i x cells
glued_between p left right i x cells = none_span
