-- What the moves of a state make of the next row.
use Rattle.std.specs.Prelude.{◌≡◌, ◌*◌, ℕ, List, length}
use Rattle.ts_base.specs.declared.letter.Letter.{Letter}
use Rattle.ts_automaton.specs.declared.regs.Hull.{Hull}
use Rattle.ts_automaton.specs.Body.{Move}
use Rattle.ts_hull.specs.Sweeps.{AllTakeNone, with_move, with_state}
use Rattle.ts_bound.specs.declared.between.Between.{Between}
use Rattle.ts_bound.specs.NextRow.{RowStands}

-- how many states there are
abbrev pub states_in : Between → ℕ
states_in m = length m.automaton.now.states

-- each hull is none or has the kinds of its state
abbrev pub Stands : Between → Type 0
Stands m = RowStands m.automaton.now m.values.domain.now m.before.now

-- a row of the next cell
abbrev pub IsNextRow : Between → List Hull → Type 0
IsNextRow m next = AllTakeNone next × (length next ≡ length m.next_values.domain.now * states_in m)

-- the row with a move of state q taken in on a letter
abbrev pub with_turn : Between → Move → ℕ → Letter → List Hull → List Hull
with_turn m k q l next = with_move k l (states_in m) q m.values.domain.now m.before.now m.next_values.domain.now next

-- the row with all moves of state q taken in
abbrev pub with_all : Between → ℕ → List Hull → List Hull
with_all m q next = with_state m.automaton.now m.values.domain.now m.before.now m.next_values.domain.now q next
