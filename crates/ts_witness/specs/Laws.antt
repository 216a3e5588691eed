-- What a series shows of a requirement that it meets, for all spans that hold the values of their terms.
use Rattle.std.specs.Prelude.{◌≡◌, ℕ, ◌-◌, ℤ, true, false, List, Contains, Some, set}
use Rattle.ts_base.specs.Windows.{looked_at}
use Rattle.ts_automaton.specs.AutomatonRun.{answer}
use Rattle.ts_bound.specs.Looks.{is_looked, place_in}
use Rattle.ts_bound.specs.TermSpans.{Automata, LooksIn}
use Rattle.ts_domain.specs.BoxSeries.{InBox}
use Rattle.ts_model.specs.declared.model.Require.{Require}
use Rattle.ts_model.specs.Meets.{IsMet, value_at}
use Rattle.ts_model.specs.ModelParts.{ModelParts}
use Rattle.ts_filter.specs.Boxes.{Box, HasCell, values_at, IsPart}
use Rattle.ts_filter.specs.Laws.{HoldsValues}
use Rattle.ts_filter.specs.RefutedWorseDrop.{Spans, IsRequirement}
use Rattle.ts_filter.specs.Tests.{is_refuted, is_drop}

-- the series with the value v at cell k, counted from 1
abbrev pub with_cell : ℕ → ℤ → List ℤ → List ℤ
with_cell k v x = set x (k - 1) v

-- a series of the box meets requirement j: it is refuted at no cell
abbrev pub MetIsAlive : Type 0
MetIsAlive =
    (m : ModelParts) (s : Spans) → HoldsValues m s → (j : ℕ) (r : Require) (b : Box) (x : List ℤ) →
    IsPart b m.cells → IsRequirement m.requirements j r → InBox x b → IsMet m x r →
    (p : ℕ) → is_refuted m.requirements s j p b ≡ false

-- a series of the box with the value v at cell k, in place of its own, meets requirement j: v isn't dropped by j
abbrev pub ChangedIsKept : Type 0
ChangedIsKept =
    (m : ModelParts) (s : Spans) → HoldsValues m s → (j : ℕ) (r : Require) (b : Box) (x : List ℤ) →
    IsPart b m.cells → IsRequirement m.requirements j r → InBox x b → (k : ℕ) (v : ℤ) → HasCell k b →
    Contains (values_at k b) v → IsMet m (with_cell k v x) r → is_drop m.requirements s k v j b ≡ false

-- on each series of the model's box the automaton answers the value of the term, over the cells that it looks at
abbrev pub Answers : ModelParts → ℕ → Automata → Type 0
Answers m term a = (x : List ℤ) → InBox x m.cells → value_at m x term ≡ Some (answer a.forward (looked_at a.window x))

-- a box of the model that holds the series y in the cells that are looked at, where j is this requirement, on a term
-- that the automaton answers
pub record IsAsked (a : Automata) (r : Require) (y : List ℤ) (m : ModelParts) (s : Spans) (j : ℕ) (b : Box) : Type 0
  where
    pub holds : HoldsValues m s
    pub answers : Answers m r.term a
    pub part : IsPart b m.cells
    pub looks : LooksIn a b
    pub require : IsRequirement m.requirements j r
    pub series : InBox y (looked_at a.window b)

-- on each box that holds the series y in the cells that are looked at, the requirement is refuted at no cell
abbrev pub IsAlive : Automata → Require → List ℤ → Type 0
IsAlive a r y =
    (m : ModelParts) (s : Spans) (j : ℕ) (b : Box) → IsAsked a r y m s j b →
    (p : ℕ) → is_refuted m.requirements s j p b ≡ false

-- on each box that holds the series y in the cells that are looked at, the requirement doesn't drop the value v of the
-- cell at the place i, counted from 1, of those cells
abbrev pub IsKept : Automata → Require → List ℤ → ℕ → ℤ → Type 0
IsKept a r y i v =
    (m : ModelParts) (s : Spans) (j : ℕ) (b : Box) → IsAsked a r y m s j b →
    (k : ℕ) → HasCell k b → is_looked a.window k ≡ true → place_in a.window k ≡ i → Contains (values_at k b) v →
    is_drop m.requirements s k v j b ≡ false
