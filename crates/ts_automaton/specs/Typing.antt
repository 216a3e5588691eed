-- The rules of an automaton, each as a test: how its parts may look, and how they are typed.
use Rattle.std.specs.Prelude.{ℕ, zero, suc, ◌+◌, pos, Bool, true, false, not, ◌&&◌, ◌||◌, nat_eq, nat_le, nat_lt, is_some, List, [], ◌∷◌, ◌++◌, length, Option, None, Some, if◌then◌else◌}
use Rattle.std.specs.List.{list_all, list_any, find}
use Rattle.std.specs.Ordering.{int_eq}
use Rattle.ts_base.specs.declared.ext.Ext.{Ext}
use Rattle.ts_base.specs.declared.ext.Ext.TheVariants.{NegInf, Int as Number, PosInf}
use Rattle.ts_base.specs.declared.letter.Letter.TheVariants.{Less, Equal, Greater}
use Rattle.ts_automaton.specs.declared.kind.RegKind.{RegKind}
use Rattle.ts_automaton.specs.declared.kind.RegKind.TheVariants.{Int}
use Rattle.ts_automaton.specs.declared.expr.Atom.TheVariants.{C, E, D, F, R, This, Next, Zero, Unit as UnitAtom, NegInf as LowAtom, PosInf as HighAtom}
use Rattle.ts_automaton.specs.declared.typing.Place.{Place}
use Rattle.ts_automaton.specs.declared.typing.Place.TheVariants.{Start, Moving, Finish}
use Rattle.ts_automaton.specs.Formula.{Formula, Leaf, Join, words_in, is_of, is_zero}
use Rattle.ts_automaton.specs.Registers.{EachOf, each, rests}
use Rattle.ts_automaton.specs.Kinds.{kind_of, is_within, formula_kind}
use Rattle.ts_automaton.specs.Body.{Move, Node, Body, move_on, node_at}

-- a test holds for each register
abbrev pub each_is : {A : Type 0} → (A → Bool) → EachOf A → Bool
each_is test a = test a.c && test a.e && test a.d && test a.f && test a.r

-- there are one to eight states
abbrev pub has_few_states : Body → Bool
has_few_states b = nat_le 1 (length b.states) && nat_le (length b.states) 8

-- a letter `a` to `z`
abbrev pub is_name : ℕ → Bool
is_name n = nat_le 97 n && nat_le n 122

-- no two of the states have one name
abbrev pub are_different : List Node → Bool
are_different [] = true
are_different (s ∷ ss) = not (list_any (λ t. nat_eq t.name s.name) ss) && are_different ss

-- the states have different names, each a letter
abbrev pub has_names : Body → Bool
has_names b = list_all (λ s. is_name s.name) b.states && are_different b.states

-- 0, 1, -inf or +inf
abbrev pub is_constant : Ext → Bool
is_constant NegInf = true
is_constant (Number x) = int_eq x (pos 0) || int_eq x (pos 1)
is_constant PosInf = true

abbrev pub is_number_zero : Ext → Bool
is_number_zero NegInf = false
is_number_zero (Number x) = int_eq x (pos 0)
is_number_zero PosInf = false

-- the start constants that an automaton of this width may have: E and F of a narrow one are 0
abbrev pub are_constants : Bool → EachOf Ext → Bool
are_constants wide a = each_is is_constant a && rests is_number_zero wide a

abbrev pub has_constants : Body → Bool
has_constants b = are_constants b.wide b.start

-- a test holds for each move of a state
abbrev pub each_move_is : (Move → Bool) → Node → Bool
each_move_is test s = test s.less && test s.equal && test s.greater

-- each move leads to a state
abbrev pub leads_below : ℕ → Node → Bool
leads_below n s = each_move_is (λ m. nat_lt m.next n) s

abbrev pub has_targets : Body → Bool
has_targets b = list_all (leads_below (length b.states)) b.states

-- an expression of at most 15 words
abbrev pub is_short : Formula → Bool
is_short f = nat_le (words_in f) 15

-- one that an automaton of this width may have
abbrev pub is_expression : Bool → Formula → Bool
is_expression wide f = is_short f && is_of wide f

-- the expressions that a move may have: E and F of a narrow one are 0
abbrev pub are_expressions : Bool → EachOf Formula → Bool
are_expressions wide a = each_is (is_expression wide) a && rests is_zero wide a

abbrev pub has_expressions_in : Bool → Node → Bool
has_expressions_in wide s = each_move_is (λ m. are_expressions wide m.to) s

abbrev pub has_expressions : Body → Bool
has_expressions b = list_all (has_expressions_in b.wide) b.states && is_expression b.wide b.finish

-- the kinds of the registers: those of the start constants, but for C in a held state, which is a number
abbrev pub kinds_where : Body → Bool → EachOf RegKind
kinds_where b held =
    each (if held then Int else kind_of b.start.c) (kind_of b.start.e) (kind_of b.start.d) (kind_of b.start.f)
    (kind_of b.start.r)

abbrev pub kinds_at : Body → ℕ → EachOf RegKind
kinds_at b q = kinds_where b (node_at b.states q).held

-- an expression has a kind, and that is within the kind of its register
abbrev pub fits_kind : Option RegKind → RegKind → Bool
fits_kind None k = false
fits_kind (Some j) k = is_within j k

abbrev pub fits_kinds : EachOf RegKind → EachOf Formula → EachOf RegKind → Bool
fits_kinds old to new =
    fits_kind (formula_kind old to.c) new.c
    && fits_kind (formula_kind old to.e) new.e
    && fits_kind (formula_kind old to.d) new.d
    && fits_kind (formula_kind old to.f) new.f
    && fits_kind (formula_kind old to.r) new.r

-- with the kinds of the state that is left, the new values have those of the state that is reached
abbrev pub is_move_typed : Body → ℕ → Move → Bool
is_move_typed b q m = fits_kinds (kinds_at b q) m.to (kinds_at b m.next)

-- neither the cell nor the next one
abbrev pub reads_registers : Formula → Bool
reads_registers (Leaf C) = true
reads_registers (Leaf E) = true
reads_registers (Leaf D) = true
reads_registers (Leaf F) = true
reads_registers (Leaf R) = true
reads_registers (Leaf This) = false
reads_registers (Leaf Next) = false
reads_registers (Leaf Zero) = true
reads_registers (Leaf UnitAtom) = true
reads_registers (Leaf LowAtom) = true
reads_registers (Leaf HighAtom) = true
reads_registers (Join o f g) = reads_registers f && reads_registers g

-- the finish expression has a kind with the C of held states, if there are any
abbrev pub is_finish_typed_where_held : Body → Bool
is_finish_typed_where_held b =
    not (list_any (λ s. s.held) b.states) || is_some (formula_kind (kinds_where b true) b.finish)

-- it reads no cell, and has a kind with the C of free states and with that of held ones
abbrev pub is_finish_typed : Body → Bool
is_finish_typed b =
    reads_registers b.finish
    && is_some (formula_kind (kinds_where b false) b.finish)
    && is_finish_typed_where_held b

-- the places that are typed, in the order of the text: the first state, each move, and the finish expression
abbrev pub moves_from : ℕ → ℕ → List Place
moves_from q zero = []
moves_from q (suc n) = Moving q Less ∷ Moving q Equal ∷ Moving q Greater ∷ moves_from (q + 1) n

abbrev pub places : Body → List Place
places b = Start ∷ (moves_from 0 (length b.states) ++ Finish ∷ [])

-- nothing at the place is against the typing: the first state is free, a move or the finish expression is typed
abbrev pub is_typed_at : Body → Place → Bool
is_typed_at b Start = not (node_at b.states 0).held
is_typed_at b (Moving q l) = is_move_typed b q (move_on l (node_at b.states q))
is_typed_at b Finish = is_finish_typed b

-- the first move against the typing, of n states from the state q on
abbrev pub move_fault : Body → ℕ → ℕ → Option Place
move_fault b q n = find (λ p. not (is_typed_at b p)) (moves_from q n)

-- the first place against the typing
abbrev pub typing_fault : Body → Option Place
typing_fault b = find (λ p. not (is_typed_at b p)) (places b)

-- the parts look as they may, whatever their types
abbrev pub is_formed : Body → Bool
is_formed b = has_few_states b && has_names b && has_constants b && has_targets b && has_expressions b

abbrev pub is_typed : Body → Bool
is_typed b = list_all (is_typed_at b) (places b)

-- all rules hold
abbrev pub is_automaton : Body → Bool
is_automaton b = is_formed b && is_typed b
