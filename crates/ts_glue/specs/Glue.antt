-- The value at a cell that a forward and a reverse run have both reached, before the mark: an expression over the
-- registers of the two runs, with one meaning for numbers, spans and kinds.
use Rattle.std.specs.Prelude.{ℕ, ℤ, zero, suc, pos, neg_ℤ, Bool, true, false, ◌&&◌, nat_eq, if◌then◌else◌}
use Rattle.std.specs.List.{list_any}
use Rattle.ts_base.specs.declared.ext.Ext.TheVariants.{Int}
use Rattle.ts_base.specs.declared.op.Op.{Op}
use Rattle.ts_base.specs.declared.op.Op.TheVariants.{Add, Max, Min}
use Rattle.ts_automaton.specs.declared.expr.Atom.TheVariants.{C, E, D, F, R}
use Rattle.ts_automaton.specs.declared.expr.Operator.{Operator}
use Rattle.ts_automaton.specs.declared.expr.Operator.TheVariants.{Fold, Sub}
use Rattle.ts_automaton.specs.Formula.{Formula, Leaf, Join}
use Rattle.ts_automaton.specs.Registers.{EachOf, each, Values, value_in, Takes}
use Rattle.ts_automaton.specs.Body.{node_at}
use Rattle.ts_glue.specs.declared.operand.Part.{Part}
use Rattle.ts_glue.specs.declared.operand.Part.TheVariants.{Whole, Away}
use Rattle.ts_glue.specs.declared.operand.Side.{Side}
use Rattle.ts_glue.specs.declared.table.FoldOp.{FoldOp}
use Rattle.ts_glue.specs.declared.table.FoldOp.TheVariants.{Add as FoldAdd, Max as FoldMax, Min as FoldMin, Pair as FoldPair}
use Rattle.ts_glue.specs.declared.table.CellUnit.{CellUnit}
use Rattle.ts_glue.specs.declared.table.CellUnit.TheVariants.{Unit as UnitCell, Value as ValueCell}
use Rattle.ts_glue.specs.Pairs.{Table, Pair}

-- an expression over the registers of the forward run (left of the cell) or over those of the reverse run (right of
-- it), a number, or an operator over two
pub data Glue : Type 0 where
  Left : Formula → Glue
  Right : Formula → Glue
  Number : ℤ → Glue
  With : Operator → Glue → Glue → Glue

-- its value at the registers s on the left and t on the right
abbrev pub glue_in : {A : Type 0} → Values A → EachOf A → EachOf A → Glue → A
glue_in m s t (Left f) = value_in m s (pos 0) (pos 0) f
glue_in m s t (Right f) = value_in m t (pos 0) (pos 0) f
glue_in m s t (Number x) = m.constant (Int x)
glue_in m s t (With o u v) = m.join o (glue_in m s t u) (glue_in m s t v)

-- each operator in it meets two values that it takes
abbrev pub GlueTakes : {A : Type 0} → (Operator → A → A → Type 0) → Values A → EachOf A → EachOf A → Glue → Type 0
GlueTakes P m s t (Left f) = Takes P m s (pos 0) (pos 0) f
GlueTakes P m s t (Right f) = Takes P m t (pos 0) (pos 0) f
GlueTakes P m s t (Number x) = Unit {0}
GlueTakes P m s t (With o u v) =
    GlueTakes P m s t u × GlueTakes P m s t v × P o (glue_in m s t u) (glue_in m s t v)

-- the operator that the finish expression begins with
abbrev pub first_op : Formula → Op
first_op (Leaf a) = Add
first_op (Join (Fold o) f g) = o
first_op (Join Sub f g) = Add

-- whether a table folds the greatest and the least cell apart: then both automata are wide
abbrev pub is_pair : FoldOp → Bool
is_pair FoldAdd = false
is_pair FoldMax = false
is_pair FoldMin = false
is_pair FoldPair = true

-- the operator by which it folds the whole of an occurrence, and what a cell is worth
abbrev pub fold_op : FoldOp → Op
fold_op FoldAdd = Add
fold_op FoldMax = Max
fold_op FoldMin = Min
fold_op FoldPair = Max

abbrev pub worth : CellUnit → ℤ → ℤ
worth UnitCell x = pos 1
worth ValueCell x = x

-- one occurrence goes on from the forward state q to the reverse state r
abbrev pub is_join : Table → ℕ → ℕ → Bool
is_join t q r = list_any (λ j. nat_eq j.forward q && nat_eq j.reverse r) t.joins

-- what a run has complete or held: of a wide automaton the greatest less the least
abbrev pub held_of : Bool → Formula
held_of false = Leaf C
held_of true = Join Sub (Leaf C) (Leaf E)

-- the answer of a run: `o R C`, of a wide automaton `o R sub C E`
abbrev pub result_of : Bool → Op → Formula
result_of wide o = Join (Fold o) (Leaf R) (held_of wide)

-- no occurrence has a sign before the cell and one after it: the answers of both sides
abbrev pub apart : Bool → Op → Glue
apart wide g = With (Fold g) (Left (result_of wide g)) (Right (result_of wide g))

-- what contracts see of the registers on one side
abbrev pub registers_in : {A : Type 0} → Side A → EachOf A
registers_in s = each s.c s.e s.d s.f s.r

-- the register in which a part of the fold is held, and the one of what may come to it: C and D have the whole of an
-- occurrence, E and F of a wide automaton what is taken away from it
abbrev pub held_in : Part → Formula
held_in Whole = Leaf C
held_in Away = Leaf E

abbrev pub open_in : Part → Formula
open_in Whole = Leaf D
open_in Away = Leaf F

-- what is held, where the state is held, and what may come to it
abbrev pub opened : Op → Bool → Glue → Glue → Glue
opened o held c d = if held then With (Fold o) c d else d

-- what is held, where the state is held, and what may come to it, folded onto u
abbrev pub then_opened : Op → Glue → Bool → Glue → Glue → Glue
then_opened o u held c d = With (Fold o) (if held then With (Fold o) u c else u) d

-- a part of the fold where an occurrence leaves its last cell out: the cell is folded between the two sides
abbrev pub folded_between : Op → Part → Bool → Bool → ℤ → Glue
folded_between o p held_left held_right d =
    then_opened
    o
    (With (Fold o) (opened o held_left (Left (held_in p)) (Left (open_in p))) (Number d))
    held_right
    (Right (held_in p))
    (Right (open_in p))

-- less the cell, where the operator would count it twice
abbrev pub counted_once : Op → ℤ → Glue → Glue
counted_once Add d u = With (Fold Add) u (Number (neg_ℤ d))
counted_once Max d u = u
counted_once Min d u = u

-- the part where it keeps its last cell: both sides have folded the cell
abbrev pub folded_both : Op → Part → ℤ → Glue
folded_both o p d =
    counted_once
    o
    d
    (With
    (Fold o)
    (With (Fold o) (Left (held_in p)) (Left (open_in p)))
    (With (Fold o) (Right (held_in p)) (Right (open_in p))))

-- a part of the one occurrence, by what the cell is worth
abbrev pub part_of : ℕ → Bool → Bool → ℤ → Op → Part → Glue
part_of zero held_left held_right d o p = folded_both o p d
part_of (suc a) held_left held_right d o p = folded_between o p held_left held_right d

-- the fold of the one occurrence by its parts: of wide automata the greatest of its cells less the least
abbrev pub fold_of : Bool → Op → (Op → Part → Glue) → Glue
fold_of false o part = part o Whole
fold_of true o part = With Sub (part o Whole) (part Min Away)

-- one occurrence goes on through the cell: it counts once beside the results of both sides
abbrev pub join_of : Op → Glue → Glue
join_of g u = With (Fold g) (With (Fold g) (Left (Leaf R)) (Right (Leaf R))) u

-- the operator of both finish expressions
abbrev pub result_op : Pair → Op
result_op p = first_op p.forward.finish

-- the two automata are wide
abbrev pub is_wide : Pair → Bool
is_wide p = is_pair p.table.op

-- at a cell x where the forward run stands in the state q and the reverse run in r
abbrev pub glue_of : Pair → ℕ → ℕ → ℤ → Glue
glue_of p q r x =
    let g = result_op p in
    let held_left = (node_at p.forward.states q).held in
    let held_right = (node_at p.reverse.states r).held in
    if is_join p.table q r
    then join_of
    g
    (fold_of
    (is_wide p)
    (fold_op p.table.op)
    (part_of p.table.a held_left held_right (worth p.table.unit x)))
    else apart (is_wide p) g
