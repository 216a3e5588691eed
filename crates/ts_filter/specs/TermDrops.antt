-- Drops by the requirements of one term, and the first of two drops.
use Rattle.std.specs.Prelude.{◌≡◌, ◌⊎◌, ℕ, ◌<◌, ◌≤◌, ℤ, Bool, true, false, ◌&&◌, ◌||◌, nat_eq, nat_lt, int_lt}
use Rattle.std.specs.Prelude.{if◌then◌else◌, List, [], ◌∷◌, Contains, length, slice_get, Option, Some, None, IsSome}
use Rattle.std.specs.Prelude.{option_map}
use Rattle.std.specs.Ordering.{int_eq}
use Rattle.ts_base.specs.declared.span.Span.{Span}
use Rattle.ts_bound.specs.Looks.{is_looked}
use Rattle.ts_bound.specs.TermSpans.{Automata, inner_value_span, term_span, value_span, IsUsable}
use Rattle.ts_domain.specs.Values.{IsRising}
use Rattle.ts_model.specs.declared.model.Require.{Require}
use Rattle.ts_filter.specs.declared.drops.Removal.{Removal}
use Rattle.ts_filter.specs.Boxes.{Box, HasCell, values_at}
use Rattle.ts_filter.specs.Drops.{IsFirstOf}
use Rattle.ts_filter.specs.Excluded.{Refutes}
use Rattle.ts_filter.specs.RefutedWorseDrop.{IsRequirement}

-- requirement j, counted from 1, is of the term, and no number of the span compares with its bound as it says
pub record IsRefuting (requirements : List Require) (term : ℕ) (s : Span) (j : ℕ) : Type 0 where
  pub require : Require
  pub is : IsRequirement requirements j require
  pub of_term : require.term ≡ term
  pub refutes : Refutes require.op require.bound s

-- the span refutes some requirement of the term
abbrev pub RefutesSome : List Require → ℕ → Span → Type 0
RefutesSome requirements term s = (j : ℕ) × IsRefuting requirements term s j

-- no requirement of the term stands at this place, counted from 0, or after it
abbrev pub NoneFrom : List Require → ℕ → ℕ → Type 0
NoneFrom requirements term end =
    (i : ℕ) (r : Require) → slice_get requirements i ≡ Some r → r.term ≡ term → i < end

-- the first requirement of the term that the span refutes; none where it refutes none
abbrev pub IsFirstRefuting : List Require → ℕ → Span → Option ℕ → Type 0
IsFirstRefuting requirements term s None = (j : ℕ) → IsRefuting requirements term s j → ⊥
IsFirstRefuting requirements term s (Some j) =
    IsRefuting requirements term s j × ((i : ℕ) → IsRefuting requirements term s i → j ≤ i)

-- a drop by a requirement of the term whose machine this is, by the span of the value in the whole box
pub record IsTermDrop (requirements : List Require) (term : ℕ) (a : Automata) (b : Box) (r : Removal) : Type 0 where
  pub usable : IsUsable a r.cell b
  pub many : 2 ≤ length (values_at r.cell b)
  pub there : Contains (values_at r.cell b) r.value
  pub refuting : IsRefuting requirements term (value_span a r.cell b r.value) r.require

-- the drop is at cell k, and by a requirement of the term whose machine this is
abbrev pub IsDropAt : List Require → ℕ → Automata → Box → ℕ → Removal → Type 0
IsDropAt requirements term a b k r = (r.cell ≡ k) × IsTermDrop requirements term a b r

-- the values are those of cell k that are left when others were found not to be dropped by these requirements
pub record AreLeft (requirements : List Require) (term : ℕ) (a : Automata) (b : Box) (k : ℕ)
    (left : List ℤ) : Type 0 where
  pub inside : (v : ℤ) → Contains left v → Contains (values_at k b) v
  pub rises : IsRising left
  pub ahead : (r : Removal) → IsDropAt requirements term a b k r → Contains left r.value

-- the removal is the first drop at cell k; if there is none, these values are left
abbrev pub IsFirstOrLeft : List Require → ℕ → Automata → Box → ℕ → List ℤ → Option Removal → Type 0
IsFirstOrLeft requirements term a b k left None = AreLeft requirements term a b k left
IsFirstOrLeft requirements term a b k left (Some r) = IsFirstOf (IsDropAt requirements term a b k) (Some r)

-- the drop is at a cell up to cell `to`, and by a requirement of the term whose machine this is
abbrev pub IsDropUpTo : List Require → ℕ → Automata → Box → ℕ → Removal → Type 0
IsDropUpTo requirements term a b to r = IsTermDrop requirements term a b r × (r.cell ≤ to)

-- the cell up to which another drop may come before the first of some, or the last cell
abbrev pub cell_up_to : Option Removal → ℕ → ℕ
cell_up_to None n = n
cell_up_to (Some r) n = r.cell

-- the first requirement of the term that the span of the cells outside the window refutes, where one may be used
abbrev pub IsRefutedOutside : List Require → ℕ → Automata → Box → Option ℕ → Type 0
IsRefutedOutside requirements term a b found =
    (k : ℕ) → IsUsable a k b → is_looked a.window k ≡ false → IsFirstRefuting requirements term (term_span a k b) found

-- the cells are those that are looked at: with no value alone at one of them that has others is the requirement refuted
abbrev pub IsQuiet : Automata → Box → Require → Type 0
IsQuiet a cells r =
    (k : ℕ) (v : ℤ) → HasCell k cells → 2 ≤ length (values_at k cells) → Contains (values_at k cells) v →
    Refutes r.op r.bound (inner_value_span a k cells v) → ⊥

-- each requirement of the term is one of these
abbrev pub AreAmong : List Require → ℕ → List Require → Type 0
AreAmong requirements term others =
    (i : ℕ) (r : Require) → slice_get requirements i ≡ Some r → r.term ≡ term → Contains others r

-- cell k is looked at, or some requirement is refuted outside
abbrev pub MayHaveDrop : Automata → Option ℕ → ℕ → Type 0
MayHaveDrop a outside k = (is_looked a.window k ≡ true) ⊎ IsSome outside

-- the drop of the least of two or more values of cell k
abbrev pub least_drop : ℕ → List ℤ → Option ℕ → Option Removal
least_drop k [] refuted = None
least_drop k (v ∷ []) refuted = None
least_drop k (v ∷ w ∷ vs) refuted = option_map (λ j. record { cell = k; value = v; require = j }) refuted

-- r comes before t: by the cell, then by the value, then by the requirement
abbrev pub comes_before : Removal → Removal → Bool
comes_before r t =
    nat_lt r.cell t.cell
    || (nat_eq r.cell t.cell
    && (int_lt r.value t.value || (int_eq r.value t.value && nat_lt r.require t.require)))

abbrev pub earlier_of : Option Removal → Option Removal → Option Removal
earlier_of None t = t
earlier_of (Some r) None = Some r
earlier_of (Some r) (Some t) = if comes_before t r then Some t else Some r
