-- The text of an automaton: the words of each line of its block, and the lines in order.
use Rattle.std.specs.Prelude.{◌≡◌, ℕ, codes, ◌+◌, ◌/◌, ◌%◌, ◌==◌, Bool, true, false, List, [], ◌∷◌, ◌++◌}
use Rattle.std.specs.Prelude.{pos, map, slice_index_or, if◌then◌else◌}
use Rattle.std.specs.List.{flat_map}
use Rattle.std.specs.Ordering.{int_eq}
use Rattle.ts_automaton.specs.declared.draft.Direction.{Direction}
use Rattle.ts_automaton.specs.declared.draft.Direction.TheVariants.{Forward, Reverse}
use Rattle.ts_automaton.specs.declared.draft.StateLine.{StateLine}
use Rattle.ts_automaton.specs.declared.state.Mark.{Mark}
use Rattle.ts_automaton.specs.declared.state.Mark.TheVariants.{Same, Zero as ZeroMark, Cells}
use Rattle.ts_base.specs.declared.ext.Ext.{Ext}
use Rattle.ts_base.specs.declared.ext.Ext.TheVariants.{NegInf, Int, PosInf}
use Rattle.ts_base.specs.Words.{full_line}
use Rattle.ts_automaton.specs.Registers.{EachOf, in_order}
use Rattle.ts_automaton.specs.Formula.{Formula}
use Rattle.ts_automaton.specs.FormulaText.{formula_words}
use Rattle.ts_automaton.specs.Body.{Move, Node, Body}

-- the lines of a block: the moves stand for each state in order, on `<`, `=` and `>`
pub record Sheet : Type 0 where
  pub direction : Direction
  pub wide : Bool
  pub states : List StateLine
  pub start : EachOf Ext
  pub moves : List Move
  pub finish : Formula
  pub mark : Mark

-- the state line of each state
abbrev pub state_lines : List Node → List StateLine
state_lines [] = []
state_lines (s ∷ ss) = record { name = s.name; held = s.held } ∷ state_lines ss

-- the three moves of each state
abbrev pub all_moves : List Node → List Move
all_moves [] = []
all_moves (s ∷ ss) = s.less ∷ s.equal ∷ s.greater ∷ all_moves ss

-- the block of an automaton, whose head names this direction
abbrev pub sheet_of : Direction → Body → Sheet
sheet_of direction m = record {
  direction = direction;
  wide = m.wide;
  states = state_lines m.states;
  start = m.start;
  moves = all_moves m.states;
  finish = m.finish;
  mark = m.mark;
}

abbrev pub no_state : StateLine
no_state = record { name = 0; held = false }

-- the letter of the state at a place
abbrev pub name_at : List StateLine → ℕ → ℕ
name_at states k = (slice_index_or states k no_state).name

abbrev pub direction_word : Direction → List ℕ
direction_word Forward = codes "forward"
direction_word Reverse = codes "reverse"

abbrev pub held_word : Bool → List ℕ
held_word true = codes "held"
held_word false = codes "free"

abbrev pub mark_word : Mark → List ℕ
mark_word Same = codes "same"
mark_word ZeroMark = codes "zero"
mark_word Cells = codes "cells"

-- the sign of the first, the second and the third move of a state
abbrev pub sign_word : ℕ → List ℕ
sign_word k = if k == 0 then codes "<" else (if k == 1 then codes "=" else codes ">")

abbrev pub semi : List ℕ
semi = codes ";"

abbrev pub state_words : StateLine → List (List ℕ)
state_words n = codes "state" ∷ (n.name ∷ []) ∷ held_word n.held ∷ []

-- 0, 1 or an infinity
abbrev pub constant_word : Ext → List ℕ
constant_word NegInf = codes "-inf"
constant_word (Int n) = if int_eq n (pos 0) then codes "0" else codes "1"
constant_word PosInf = codes "+inf"

-- the words for E or F, which stand in a wide text alone
abbrev pub part_words : {A : Type 0} → (A → List (List ℕ)) → Bool → A → List (List ℕ)
part_words words false a = []
part_words words true a = words a

-- the words of what there is for each register of a width
abbrev pub each_words : {A : Type 0} → (A → List (List ℕ)) → Bool → EachOf A → List (List ℕ)
each_words words wide a = flat_map words (in_order wide a)

abbrev pub constant_words : Ext → List (List ℕ)
constant_words e = constant_word e ∷ []

abbrev pub start_words : Bool → EachOf Ext → List (List ℕ)
start_words wide r = codes "start" ∷ each_words constant_words wide r

-- an expression of a move, with the `;` before it
abbrev pub behind_semi : Formula → List (List ℕ)
behind_semi f = semi ∷ formula_words f

-- the first words of move k, counted from 0, which leads to the state at place `next`
abbrev pub turn_words : List StateLine → ℕ → ℕ → List (List ℕ)
turn_words states k next =
    (name_at states (k / 3) ∷ []) ∷ sign_word (k % 3) ∷ (name_at states next ∷ []) ∷ []

abbrev pub move_words : Bool → List StateLine → ℕ → Move → List (List ℕ)
move_words wide states k t = codes "move" ∷ (turn_words states k t.next ++ each_words behind_semi wide t.to)

abbrev pub finish_words : Formula → Mark → List (List ℕ)
finish_words f m = codes "finish" ∷ (formula_words f ++ (mark_word m ∷ []))

-- the moves from move k on
abbrev pub moves_words : Bool → List StateLine → ℕ → List Move → List (List (List ℕ))
moves_words wide states k [] = []
moves_words wide states k (t ∷ ts) = move_words wide states k t ∷ moves_words wide states (k + 1) ts

-- the lines after the head, up to the moves
abbrev pub lines_to_moves : Bool → List StateLine → EachOf Ext → List Move → List (List (List ℕ))
lines_to_moves wide states start moves =
    map state_words states ++ (start_words wide start ∷ moves_words wide states 0 moves)

-- up to the finish line
abbrev pub lines_to_finish : Bool → List StateLine → EachOf Ext → List Move → Formula → Mark → List (List (List ℕ))
lines_to_finish wide states start moves finish mark =
    lines_to_moves wide states start moves ++ (finish_words finish mark ∷ [])

-- all lines of a text, with the last one
abbrev pub body_lines : Bool → List StateLine → EachOf Ext → List Move → Formula → Mark → List (List (List ℕ))
body_lines wide states start moves finish mark =
    lines_to_finish wide states start moves finish mark ++ ((codes "end" ∷ []) ∷ [])

-- the text of the words of a line: single spaces between them, and an LF after
abbrev pub words_text : List (List ℕ) → List ℕ
words_text [] = []
words_text (w ∷ ws) = full_line (record { first = w; more = ws })

abbrev pub lines_text : List (List (List ℕ)) → List ℕ
lines_text [] = []
lines_text (l ∷ ls) = words_text l ++ lines_text ls

-- the direction, and the width where it is wide
abbrev pub head_words : Direction → Bool → List (List ℕ)
head_words direction false = direction_word direction ∷ []
head_words direction true = direction_word direction ∷ codes "wide" ∷ []

abbrev pub head_text : Direction → Bool → List ℕ
head_text direction wide = words_text (head_words direction wide)

-- the one body of an automaton
abbrev pub body_text : Body → List ℕ
body_text m = lines_text (body_lines m.wide (state_lines m.states) m.start (all_moves m.states) m.finish m.mark)

-- the text is the block of this automaton, under the head of either direction
abbrev pub IsBlockOf : List ℕ → Body → Type 0
IsBlockOf text m = (direction : Direction) × (text ≡ head_text direction m.wide ++ body_text m)
