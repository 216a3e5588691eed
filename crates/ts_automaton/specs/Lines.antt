-- What the words of a line say where it stands.
use Rattle.std.specs.Prelude.{ℕ, codes, ◌+◌, ◌*◌, ◌/◌, ◌%◌, ◌-◌, ◌==◌, pos, Bool, true, false, ◌&&◌, List, [], ◌∷◌, length, take, drop}
use Rattle.std.specs.Prelude.{slice_index_or, if◌then◌else◌, nat_le, Option, Some, None}
use Rattle.std.specs.List.{position}
use Rattle.std.specs.Str.{bytes_eq}
use Rattle.ts_base.specs.declared.ext.Ext.{Ext}
use Rattle.ts_base.specs.declared.ext.Ext.TheVariants.{NegInf, Int, PosInf}
use Rattle.ts_automaton.specs.declared.draft.Direction.{Direction}
use Rattle.ts_automaton.specs.declared.draft.Direction.TheVariants.{Forward, Reverse}
use Rattle.ts_automaton.specs.declared.draft.StateLine.{StateLine}
use Rattle.ts_automaton.specs.declared.state.Mark.{Mark}
use Rattle.ts_automaton.specs.declared.state.Mark.TheVariants.{Same, Zero as ZeroMark, Cells}
use Rattle.ts_automaton.specs.declared.expr.Atom.TheVariants.{Zero as ZeroAtom}
use Rattle.ts_automaton.specs.Formula.{Formula, Leaf}
use Rattle.ts_automaton.specs.Registers.{EachOf, each}
use Rattle.ts_automaton.specs.FormulaText.{formula_of}
use Rattle.ts_automaton.specs.Body.{Move}
use Rattle.ts_automaton.specs.AutomatonText.{name_at, sign_word}
use Rattle.ts_automaton.specs.Grammar.{is_new}

-- the word at a place, or an empty one
abbrev pub word_at : List (List ℕ) → ℕ → List ℕ
word_at ws k = slice_index_or ws k []

abbrev pub direction_of : List ℕ → Option Direction
direction_of w =
    if bytes_eq w (codes "forward") then Some Forward
    else (if bytes_eq w (codes "reverse") then Some Reverse
    else None)

abbrev pub head_made : Bool → Option Direction → Option (Direction × Bool)
head_made wide None = None
head_made wide (Some direction) = Some (direction, wide)

-- the direction that a head names, and whether the block is wide
abbrev pub read_head : List (List ℕ) → Option (Direction × Bool)
read_head ws =
    if length ws == 1 then head_made false (direction_of (word_at ws 0))
    else (if length ws == 2
    then (if bytes_eq (word_at ws 1) (codes "wide") then head_made true (direction_of (word_at ws 0)) else None)
    else None)

abbrev pub held_of : List ℕ → Option Bool
held_of w =
    if bytes_eq w (codes "free") then Some false
    else (if bytes_eq w (codes "held") then Some true
    else None)

-- the byte of a word that has one
abbrev pub only_byte : List ℕ → Option ℕ
only_byte [] = None
only_byte (b ∷ []) = Some b
only_byte (b ∷ c ∷ bs) = None

-- the letter, if it is a name that no state has
abbrev pub new_name : List StateLine → Option ℕ → Option ℕ
new_name states None = None
new_name states (Some b) = if is_new states b then Some b else None

abbrev pub state_made : Option ℕ → Option Bool → Option StateLine
state_made None h = None
state_made (Some n) None = None
state_made (Some n) (Some h) = Some (record { name = n; held = h })

abbrev pub read_state : List StateLine → List (List ℕ) → Option StateLine
read_state states ws =
    if length ws == 3
    then (if bytes_eq (word_at ws 0) (codes "state")
    then state_made (new_name states (only_byte (word_at ws 1))) (held_of (word_at ws 2))
    else None)
    else None

abbrev pub constant_of : List ℕ → Option Ext
constant_of w =
    if bytes_eq w (codes "0") then Some (Int (pos 0))
    else (if bytes_eq w (codes "1") then Some (Int (pos 1))
    else (if bytes_eq w (codes "-inf") then Some NegInf
    else (if bytes_eq w (codes "+inf") then Some PosInf
    else None)))

-- one of a thing for each register, where there are all
abbrev pub all_five : {A : Type 0} → Option A → Option A → Option A → Option A → Option A → Option (EachOf A)
all_five None e d f r = None
all_five (Some c) None d f r = None
all_five (Some c) (Some e) None f r = None
all_five (Some c) (Some e) (Some d) None r = None
all_five (Some c) (Some e) (Some d) (Some f) None = None
all_five (Some c) (Some e) (Some d) (Some f) (Some r) = Some (each c e d f r)

-- what is read for E or F: it is at rest where it isn't of the width
abbrev pub extra : {A : Type 0} → Bool → A → Option A → Option A
extra false rest read = Some rest
extra true rest read = read

-- how far the words of C, D and R stand apart in a start line: those of E and F stand between them
abbrev pub stride : Bool → ℕ
stride false = 1
stride true = 2

abbrev pub constant_at : List (List ℕ) → ℕ → Option Ext
constant_at ws k = constant_of (word_at ws k)

abbrev pub constants_of : Bool → List (List ℕ) → Option (EachOf Ext)
constants_of wide ws =
    all_five (constant_at ws 1) (extra wide (Int (pos 0)) (constant_at ws 2)) (constant_at ws (1 + stride wide))
    (extra wide (Int (pos 0)) (constant_at ws 4)) (constant_at ws (1 + 2 * stride wide))

abbrev pub read_start : Bool → List (List ℕ) → Option (EachOf Ext)
read_start wide ws =
    if length ws == (2 + 2 * stride wide)
    then (if bytes_eq (word_at ws 0) (codes "start") then constants_of wide ws else None)
    else None

abbrev pub is_semi : List ℕ → Bool
is_semi w = bytes_eq w (codes ";")

abbrev pub onto_cut : List ℕ → Option (List (List ℕ) × List (List ℕ)) → Option (List (List ℕ) × List (List ℕ))
onto_cut w None = None
onto_cut w (Some p) = Some (w ∷ p.0, p.1)

-- the words before the first `;`, and those after it
abbrev pub cut_of : List (List ℕ) → Option (List (List ℕ) × List (List ℕ))
cut_of [] = None
cut_of (w ∷ ws) = if is_semi w then Some ([], ws) else onto_cut w (cut_of ws)

abbrev pub place_by : List StateLine → Option ℕ → Option ℕ
place_by states None = None
place_by states (Some b) = position (λ n. n.name == b) states

-- the place of the state with this letter
abbrev pub place_of : List StateLine → List ℕ → Option ℕ
place_of states w = place_by states (only_byte w)

abbrev pub move_made : Option ℕ → Option (EachOf Formula) → Option Move
move_made None to = None
move_made (Some n) None = None
move_made (Some n) (Some to) = Some (record { next = n; to = to })

-- the words for E or F, and those after them; none where it isn't of the width
abbrev pub cut_extra : Bool → List (List ℕ) → Option (List (List ℕ) × List (List ℕ))
cut_extra false ws = Some ([], ws)
cut_extra true ws = cut_of ws

-- the words of each expression, `;` between them, from the words of some on
abbrev pub with_last :
    List (List ℕ) → List (List ℕ) → List (List ℕ) → Option (List (List ℕ) × List (List ℕ)) →
    Option (EachOf (List (List ℕ)))
with_last c e d None = None
with_last c e d (Some p) = Some (each c e d p.0 p.1)

abbrev pub from_d :
    Bool → List (List ℕ) → List (List ℕ) → Option (List (List ℕ) × List (List ℕ)) → Option (EachOf (List (List ℕ)))
from_d wide c e None = None
from_d wide c e (Some p) = with_last c e p.0 (cut_extra wide p.1)

abbrev pub from_e :
    Bool → List (List ℕ) → Option (List (List ℕ) × List (List ℕ)) → Option (EachOf (List (List ℕ)))
from_e wide c None = None
from_e wide c (Some p) = from_d wide c p.0 (cut_of p.1)

abbrev pub from_c : Bool → Option (List (List ℕ) × List (List ℕ)) → Option (EachOf (List (List ℕ)))
from_c wide None = None
from_c wide (Some p) = from_e wide p.0 (cut_extra wide p.1)

abbrev pub pieces_of : Bool → List (List ℕ) → Option (EachOf (List (List ℕ)))
pieces_of wide ws = from_c wide (cut_of ws)

-- the expressions of these pieces
abbrev pub formulas_of : Bool → Option (EachOf (List (List ℕ))) → Option (EachOf Formula)
formulas_of wide None = None
formulas_of wide (Some p) =
    all_five (formula_of wide p.c) (extra wide (Leaf ZeroAtom) (formula_of wide p.e)) (formula_of wide p.d)
    (extra wide (Leaf ZeroAtom) (formula_of wide p.f)) (formula_of wide p.r)

-- the first five words of move k, but the target
abbrev pub is_move_head : List StateLine → ℕ → List (List ℕ) → Bool
is_move_head states k ws =
    bytes_eq (word_at ws 0) (codes "move")
    && (bytes_eq (word_at ws 1) (name_at states (k / 3) ∷ [])
    && (bytes_eq (word_at ws 2) (sign_word (k % 3)) && is_semi (word_at ws 4)))

abbrev pub read_move : Bool → List StateLine → ℕ → List (List ℕ) → Option Move
read_move wide states k ws =
    if nat_le 5 (length ws)
    then (if is_move_head states k ws
    then move_made (place_of states (word_at ws 3)) (formulas_of wide (pieces_of wide (drop 5 ws)))
    else None)
    else None

abbrev pub mark_of : List ℕ → Option Mark
mark_of w =
    if bytes_eq w (codes "same") then Some Same
    else (if bytes_eq w (codes "zero") then Some ZeroMark
    else (if bytes_eq w (codes "cells") then Some Cells
    else None))

abbrev pub finish_made : Option Formula → Option Mark → Option (Formula × Mark)
finish_made None m = None
finish_made (Some f) None = None
finish_made (Some f) (Some m) = Some (f, m)

-- an expression, and the mark as the last word
abbrev pub expression_and_mark : Bool → List (List ℕ) → Option (Formula × Mark)
expression_and_mark wide ws =
    finish_made (formula_of wide (take (length ws - 1) ws)) (mark_of (word_at ws (length ws - 1)))

abbrev pub read_finish : Bool → List (List ℕ) → Option (Formula × Mark)
read_finish wide ws =
    if nat_le 2 (length ws)
    then (if bytes_eq (word_at ws 0) (codes "finish") then expression_and_mark wide (drop 1 ws) else None)
    else None

abbrev pub is_end : List (List ℕ) → Bool
is_end ws = length ws == 1 && bytes_eq (word_at ws 0) (codes "end")
