-- The states that an automaton passes on a series, as far as they are known.
use Rattle.std.specs.Prelude.{◌≡◌, ◌<◌, ◌≤◌, ℕ, zero, suc, ℤ, List, [], ◌∷◌, ◌++◌, length, take, Some, slice_get}
use Rattle.ts_base.specs.declared.ext.Ext.{Ext}
use Rattle.ts_automaton.specs.declared.regs.At.{At}
use Rattle.ts_automaton.specs.Body.{Body}
use Rattle.ts_automaton.specs.AutomatonRun.{Standing, Stands, after, standing_of, start_of, step_of}
use Rattle.ts_witness.specs.declared.run.Run.{Run}
use Rattle.ts_witness.specs.declared.run.Side.{Side}

-- after each of the known cells the automaton stands as its place among the states says
pub record IsRun (b : Body) (cells : List ℤ) (states : List At) (known : ℕ) : Type 0 where
  pub count : length states ≡ length cells
  pub few : known ≤ length cells
  pub right : (i : ℕ) (a : At) → i < known → slice_get states i ≡ Some a → standing_of a ≡ after b (take (suc i) cells)
  pub stands : (i : ℕ) (a : At) → i < known → slice_get states i ≡ Some a → Stands b (standing_of a)

abbrev pub cells_in : Run → List ℤ
cells_in r = r.cells.items

abbrev pub Runs : Body → Run → Type 0
Runs b r = IsRun b r.cells.items r.states.items r.known

-- where the automaton stands after the value v at the place i, by what it has beside it
abbrev pub arrived : Body → ℕ → Side → ℤ → Standing Ext
arrived b zero s v = start_of b
arrived b (suc i) s v = step_of b (standing_of s.at) s.cell v

-- what the automaton has beside the place i is that of this series: with any value there it arrives where it stands
-- after the cells before and that value
abbrev pub IsSide : Body → List ℤ → ℕ → Side → Type 0
IsSide b cells i s = (v : ℤ) → arrived b i s v ≡ after b (take i cells ++ v ∷ [])
