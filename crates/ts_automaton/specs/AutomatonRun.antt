-- The run of an automaton over a series: it starts at the first state with the start constants, makes the move of each
-- pair of neighbours, and answers its finish expression under its mark.
use Rattle.std.specs.Prelude.{◌<◌, ◌≤◌, ℕ, ℤ, pos, IsTrue, List, [], ◌∷◌, length}
use Rattle.std.specs.List.{AllByRecursion}
use Rattle.ts_base.specs.declared.ext.Ext.{Ext}
use Rattle.ts_base.specs.declared.ext.Ext.TheVariants.{NegInf, Int, PosInf}
use Rattle.ts_base.specs.Limits.{most_cells, IsCellValue}
use Rattle.ts_base.specs.Numbers.{ext_le}
use Rattle.ts_base.specs.Signature.{letter_of}
use Rattle.ts_automaton.specs.declared.state.Mark.{Mark}
use Rattle.ts_automaton.specs.declared.state.Mark.TheVariants.{Same, Zero, Cells}
use Rattle.ts_automaton.specs.declared.regs.At.{At}
use Rattle.ts_automaton.specs.Registers.{EachOf, map_each, Each, regs_of, Values, numbers, value_in}
use Rattle.ts_automaton.specs.Kinds.{HasKind}
use Rattle.ts_automaton.specs.Typing.{kinds_at}
use Rattle.ts_automaton.specs.Body.{Move, Body, move_on, node_at}

-- a state, by its place, and something for each register
pub record Standing (A : Type 0) : Type 0 where
  pub state : ℕ
  pub regs : EachOf A

-- what contracts see of a state with its registers
abbrev pub standing_of : At → Standing Ext
standing_of at = record { state = at.state; regs = regs_of at.regs }

-- the move that two neighbours make from a state
abbrev pub move_between : Body → ℕ → ℤ → ℤ → Move
move_between b q x y = move_on (letter_of x y) (node_at b.states q)

-- the new registers of a move
abbrev pub registers_after : {A : Type 0} → Values A → EachOf A → ℤ → ℤ → Move → EachOf A
registers_after m s x y t = map_each (value_in m s x y) t.to

-- the state exists, and the registers have the kinds that they have there
pub record Stands (b : Body) (s : Standing Ext) : Type 0 where
  pub exists : s.state < length b.states
  pub kinds : Each HasKind (kinds_at b s.state) s.regs

abbrev pub start_of : Body → Standing Ext
start_of b = record { state = 0; regs = b.start }

abbrev pub step_of : Body → Standing Ext → ℤ → ℤ → Standing Ext
step_of b s x y =
    let m = move_between b s.state x y in
    record { state = m.next; regs = registers_after numbers s.regs x y m }

-- what becomes of an answer after n cells: -inf becomes 0 under one mark, +inf the number of cells under the other
abbrev pub under_mark : Mark → ℕ → Ext → Ext
under_mark Same n e = e
under_mark Zero n NegInf = Int (pos 0)
under_mark Zero n (Int x) = Int x
under_mark Zero n PosInf = PosInf
under_mark Cells n NegInf = NegInf
under_mark Cells n (Int x) = Int x
under_mark Cells n PosInf = Int (pos n)

-- the finish expression, before the mark
abbrev pub finish_value : {A : Type 0} → Values A → Body → EachOf A → A
finish_value m b s = value_in m s (pos 0) (pos 0) b.finish

abbrev pub finish_of : Body → Standing Ext → ℕ → Ext
finish_of b s n = under_mark b.mark n (finish_value numbers b s.regs)

-- where the automaton stands after a series, from a state at its first cell
abbrev pub after_from : Body → Standing Ext → ℤ → List ℤ → Standing Ext
after_from b s x [] = s
after_from b s x (y ∷ ys) = after_from b (step_of b s x y) y ys

abbrev pub after : Body → List ℤ → Standing Ext
after b [] = start_of b
after b (x ∷ xs) = after_from b (start_of b) x xs

-- the answer on a series
abbrev pub answer : Body → List ℤ → Ext
answer b xs = finish_of b (after b xs) (length xs)

-- what a mark promises of an answer: at least 0 under one, at most the number of cells under the other
abbrev pub IsInMark : Mark → ℕ → Ext → Type 0
IsInMark Same n e = Unit {0}
IsInMark Zero n e = IsTrue (ext_le (Int (pos 0)) e)
IsInMark Cells n e = IsTrue (ext_le e (Int (pos n)))

abbrev pub AreCellValues : List ℤ → Type 0
AreCellValues = AllByRecursion IsCellValue

-- the mark's promise holds of the answer on every series of at most n cells within the limits
abbrev pub HoldsMarkUpTo : ℕ → Body → Type 0
HoldsMarkUpTo n b =
    (xs : List ℤ) → 1 ≤ length xs → length xs ≤ n → AreCellValues xs → IsInMark b.mark (length xs) (answer b xs)

abbrev pub HoldsMark : Body → Type 0
HoldsMark = HoldsMarkUpTo most_cells
