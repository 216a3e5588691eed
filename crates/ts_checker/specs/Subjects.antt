-- What the rules of lines are asked of: the tables of a model's terms, and what the lines before the tree say.
use Rattle.std.specs.Prelude.{◌≡◌, ℕ, ℤ, List, length, map, Option, Some, None, slice_get}
use Rattle.std.specs.List.{AllByRecursion}
use Rattle.std.specs.Global.{Vec}
use Rattle.ts_base.specs.declared.ext.Ext.{Ext}
use Rattle.ts_bound.specs.TermSpans.{Automata}
use Rattle.ts_model.specs.Promise.{IsWhole}
use Rattle.ts_model.specs.ModelParts.{ModelParts}
use Rattle.ts_filter.specs.Boxes.{Box}
use Rattle.ts_filter.specs.Rules.{Head}
use Rattle.ts_checker.specs.declared.subject.Head.{Head as GivenHead}
use Rattle.ts_spans.specs.Machines.{automata_in}

-- the tables are those of the machines of the model's terms, and each requirement's term stands
pub record AreTables (m : ModelParts) (tables : List Automata) : Type 0 where
  pub machines : tables ≡ automata_in m
  pub whole : IsWhole m

-- each of the boxes has as many cells as the model
abbrev pub AreSized : ModelParts → List Box → Type 0
AreSized m boxes = AllByRecursion (λ b. length b ≡ length m.cells) boxes

-- series as lists
abbrev pub series_of : List (Vec ℤ) → List (List ℤ)
series_of xs = map (λ x. x.items) xs

abbrev pub head_in : GivenHead → Head
head_in h = record { aim = h.aim; claim = h.claim; series = series_of h.series.now }

-- the value at a place, where there is one
abbrev pub value_in : List Ext → Option ℕ → Option Ext
value_in values None = None
value_in values (Some term) = slice_get values term
