-- A series meets what a model text states: it has as many cells, each in its domain, and every requirement holds of the
-- value of its term.
use Rattle.std.specs.Prelude.{ℕ, ◌≡◌, ℤ, List, length, map, IsTrue, Option, Some, slice_get}
use Rattle.std.specs.List.{AllByRecursion}
use Rattle.ts_base.specs.declared.ext.Ext.{Ext}
use Rattle.ts_domain.specs.BoxSeries.{InBox}
use Rattle.ts_model.specs.declared.model.Require.{Require}
use Rattle.ts_model.specs.Compares.{compares}
use Rattle.ts_model.specs.ModelParts.{ModelParts}
use Rattle.ts_model.specs.TermValue.{stated_value}

-- the value of each term on a series, in the order of the text
abbrev pub values_on : ModelParts → List ℤ → List Ext
values_on m xs = map (λ t. stated_value t.1 xs) m.terms

-- the value of the term at a place, counted from 0; none where no term stands there
abbrev pub value_at : ModelParts → List ℤ → ℕ → Option Ext
value_at m xs place = slice_get (values_on m xs) place

-- the requirement's term stands, and its value on the series compares so with the bound
abbrev pub IsMet : ModelParts → List ℤ → Require → Type 0
IsMet m xs r = (v : Ext) × (value_at m xs r.term ≡ Some v) × IsTrue (compares r.op r.bound v)

-- the series meets what is stated
pub record Meets (m : ModelParts) (xs : List ℤ) : Type 0 where
  pub cells : length xs ≡ length m.cells
  pub inside : InBox xs m.cells
  pub requirements : AllByRecursion (IsMet m xs) m.requirements
