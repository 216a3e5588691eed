-- A series judged by a model: which cells lie in their domains, which requirements hold, and whether all of that is so.
use Rattle.std.specs.Prelude.{◌≡◌, ◌&&◌, ◌↔◌, ℤ, Bool, false, IsTrue, List, length, map, Option, Some, None, slice_get}
use Rattle.std.specs.List.{list_all, list_any, zip}
use Rattle.std.specs.Ordering.{int_eq}
use Rattle.ts_base.specs.declared.ext.Ext.{Ext}
use Rattle.ts_model.specs.declared.model.Require.{Require}
use Rattle.ts_model.specs.Compares.{compares}
use Rattle.ts_model.specs.Meets.{Meets, values_on}
use Rattle.ts_model.specs.ModelParts.{ModelParts}

-- x is one of the values
abbrev pub is_among : List ℤ → ℤ → Bool
is_among values x = list_any (int_eq x) values

-- for each cell, whether its value is in its domain
abbrev pub insides : List (List ℤ) → List ℤ → List Bool
insides cells xs = map (λ p. is_among p.0 p.1) (zip cells xs)

-- whether there is a value, and it compares so with the bound
abbrev pub holds_of : Require → Option Ext → Bool
holds_of r None = false
holds_of r (Some v) = compares r.op r.bound v

-- whether the requirement's term is one of those with these values, and its value compares so with the bound
abbrev pub holds : List Ext → Require → Bool
holds values r = holds_of r (slice_get values r.term)

-- for each requirement, whether it holds of the values
abbrev pub holdings : List Ext → List Require → List Bool
holdings values requirements = map (holds values) requirements

abbrev pub all_true : List Bool → Bool
all_true tests = list_all (λ t. t) tests

-- whether every cell lies inside and every requirement holds
abbrev pub all_hold : List Bool → List Bool → Bool
all_hold inside holding = all_true inside && all_true holding

-- whether all of that is so of a series
abbrev pub is_met : ModelParts → List ℤ → Bool
is_met m xs = all_hold (insides m.cells xs) (holdings (values_on m xs) m.requirements)

-- of a series with as many cells, all is so exactly where it meets what is stated
abbrev pub JudgedIsMet : Type 0
JudgedIsMet = (m : ModelParts) (xs : List ℤ) → length xs ≡ length m.cells → IsTrue (is_met m xs) ↔ Meets m xs
