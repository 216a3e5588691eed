-- How the moves of an automaton are taken in, found once for an automaton.
use Rattle.std.specs.Prelude.{◌≡◌, ℕ, ◌<◌, Bool, true, false, if◌then◌else◌, IfSome, MatchOption, None, length, get_or}
use Rattle.ts_base.specs.declared.letter.Letter.{Letter}
use Rattle.ts_base.specs.declared.letter.Letter.TheVariants.{Less, Equal, Greater}
use Rattle.ts_base.specs.declared.op.Op.{Op}
use Rattle.ts_base.specs.declared.op.Op.TheVariants.{Add, Max, Min}
use Rattle.ts_automaton.specs.declared.expr.Atom.TheVariants.{C, E, D, F, R, This, Next, Zero, Unit as UnitAtom, NegInf as LowAtom, PosInf as HighAtom}
use Rattle.ts_automaton.specs.declared.expr.Expr.{Expr}
use Rattle.ts_automaton.specs.declared.expr.Operator.{Operator}
use Rattle.ts_automaton.specs.declared.expr.Operator.TheVariants.{Fold, Sub}
use Rattle.ts_automaton.specs.Formula.{Formula, Leaf, Join, formula}
use Rattle.ts_automaton.specs.Registers.{each}
use Rattle.ts_automaton.specs.Body.{Body, Move}
use Rattle.ts_hull.specs.Sealed.{move_at}
use Rattle.ts_hull.specs.Splits.{Split, FrontOf, TailOf}
use Rattle.ts_hull.specs.Cuts.{Cut, all_swept, cut_of}
use Rattle.ts_sweep.specs.AnyParts.{AreReadingsOf}
use Rattle.ts_sweep.specs.Here.{here_formula, here_move}
use Rattle.ts_sweep.specs.Moves.{of_width}
use Rattle.ts_sweep.specs.PairMoves.{emission}
use Rattle.ts_row.specs.declared.emission.Operators.{Operators}
use Rattle.ts_row.specs.declared.words.Words.{Words}
use Rattle.ts_row.specs.declared.words.Words.TheVariants.{Word, Two, Three, Again}
use Rattle.ts_row.specs.declared.plan.CellFold.{CellFold}
use Rattle.ts_row.specs.declared.plan.CellFold.TheVariants.{Ones, Width, Surf, Greatest, Least}
use Rattle.ts_row.specs.declared.plan.RangeFold.{RangeFold}
use Rattle.ts_row.specs.declared.plan.RangeFold.TheVariants.{Sum, Highest, Lowest}
use Rattle.ts_row.specs.declared.plan.Shape.{Shape}
use Rattle.ts_row.specs.declared.plan.Shape.TheVariants.{Kept, Longer, Begun, Found, Inside, Ended, Anew, FoundTwice, EndedTwice, LongerNext, FoundNext, InsideNext, Other}
use Rattle.ts_row.specs.declared.plan.Equals.TheVariants.{Alone, WithLess, WithGreater}
use Rattle.ts_row.specs.declared.plan.MovePlan.{MovePlan}
use Rattle.ts_row.specs.declared.plan.StatePlan.{StatePlan}
use Rattle.ts_row.specs.declared.plan.Plan.{Plan}

-- an expression of a move, as it is read between equal values or others
abbrev pub read : Bool → Expr → Formula
read equal e = here_formula equal (formula e)

-- an expression of few words
abbrev pub words_formula : Words → Formula
words_formula (Word a) = Leaf a
words_formula (Two o a b) = Join (Fold o) (Leaf a) (Leaf b)
words_formula (Three o a p b c) = Join (Fold o) (Leaf a) (Join (Fold p) (Leaf b) (Leaf c))
words_formula (Again o a b c) = Join (Fold o) (Join (Fold o) (Leaf a) (Leaf b)) (Leaf c)

-- the operator of a fold of cells, what a cell is worth in it, and the word that it begins with
abbrev pub cell_op : CellFold → Op
cell_op Ones = Max
cell_op Width = Add
cell_op Surf = Add
cell_op Greatest = Max
cell_op Least = Min

abbrev pub cell_word : CellFold → Formula
cell_word Ones = Leaf UnitAtom
cell_word Width = Leaf UnitAtom
cell_word Surf = Leaf This
cell_word Greatest = Leaf This
cell_word Least = Leaf This

abbrev pub cell_start : CellFold → Formula
cell_start Ones = Leaf UnitAtom
cell_start Width = Leaf Zero
cell_start Surf = Leaf Zero
cell_start Greatest = Leaf LowAtom
cell_start Least = Leaf HighAtom

-- D, joined with the worth of a cell, and of two
abbrev pub once : CellFold → Formula
once f = Join (Fold (cell_op f)) (Leaf D) (cell_word f)

abbrev pub twice_by : Operator → Formula → Formula
twice_by o w = Join o (Join o (Leaf D) w) w

abbrev pub twice : CellFold → Formula
twice f = twice_by (Fold (cell_op f)) (cell_word f)

-- the operator of a fold of ranges
abbrev pub range_op : RangeFold → Op
range_op Sum = Add
range_op Highest = Max
range_op Lowest = Min

abbrev pub range_start : RangeFold → Formula
range_start Sum = Leaf Zero
range_start Highest = Leaf LowAtom
range_start Lowest = Leaf HighAtom

-- a move whose expressions don't read the next cell
abbrev pub fronts : Formula → Formula → Formula → Formula → Formula → Cut
fronts c e d f r = each (FrontOf c) (FrontOf e) (FrontOf d) (FrontOf f) (FrontOf r)

-- what a wide automaton takes away is folded by the lesser
abbrev pub least : Formula → Formula
least e = Join (Fold Min) e (Leaf This)

-- D goes on; D begins anew; C becomes of D and a word, and D begins anew; C becomes of C, D and a word, and D begins
-- anew; R becomes of R and of what was found, and D begins anew; R becomes of R and what is held, and both begin anew.
-- E changes as C does and F as D does, by the lesser; a narrow automaton has neither.
abbrev pub longer_fronts : Operator → Formula → Cut
longer_fronts o w = fronts (Leaf C) (Leaf E) (Join o (Leaf D) w) (least (Leaf F)) (Leaf R)

abbrev pub begun_fronts : Formula → Cut
begun_fronts d = fronts (Leaf C) (Leaf E) d (Leaf HighAtom) (Leaf R)

abbrev pub found_fronts : Operator → Formula → Formula → Cut
found_fronts o w d = fronts (Join o (Leaf D) w) (least (Leaf F)) d (Leaf HighAtom) (Leaf R)

abbrev pub inside_fronts : Operator → Formula → Formula → Cut
inside_fronts o w d =
    fronts (Join o (Leaf C) (Join o (Leaf D) w)) (Join (Fold Min) (Leaf E) (least (Leaf F))) d (Leaf HighAtom) (Leaf R)

abbrev pub ended_fronts : Operator → Formula → Formula → Cut
ended_fronts o found d = fronts (Leaf C) (Leaf E) d (Leaf HighAtom) (Join o (Leaf R) found)

abbrev pub anew_fronts : Operator → Formula → Formula → Formula → Cut
anew_fronts o c held d = fronts c (Leaf Zero) d (Leaf HighAtom) (Join o (Leaf R) held)

-- C becomes of D and the worth of two cells, and D begins anew
abbrev pub found_twice_fronts : Operator → Formula → Formula → Cut
found_twice_fronts o w d = fronts (twice_by o w) (least (least (Leaf F))) d (Leaf HighAtom) (Leaf R)

-- the next cell is the last operand: D goes on with it; C becomes of D, a word and it, and D begins anew; C becomes of
-- C, D and it, and D begins anew
abbrev pub longer_tails : Op → Cut
longer_tails o = each (FrontOf (Leaf C)) (FrontOf (Leaf E)) (TailOf o (Leaf D)) (TailOf Min (Leaf F)) (FrontOf (Leaf R))

abbrev pub found_tails : Operator → Op → Formula → Formula → Cut
found_tails p o w d =
    each (TailOf o (Join p (Leaf D) w)) (TailOf Min (least (Leaf F))) (FrontOf d) (FrontOf (Leaf HighAtom))
    (FrontOf (Leaf R))

abbrev pub inside_tails : Operator → Op → Formula → Cut
inside_tails p o d =
    each (TailOf o (Join p (Leaf C) (Leaf D))) (TailOf Min (Join (Fold Min) (Leaf E) (Leaf F))) (FrontOf d)
    (FrontOf (Leaf HighAtom)) (FrontOf (Leaf R))

-- an expression, joined with the next cell
abbrev pub next_to : Op → Formula → Formula
next_to o e = Join (Fold o) e (Leaf Next)

-- R becomes of something that is split so, and D begins anew
abbrev pub emitted_cut : Formula → Split → Cut
emitted_cut d r = each (FrontOf (Leaf C)) (FrontOf (Leaf E)) (FrontOf d) (FrontOf (Leaf HighAtom)) r

-- what is held: in a wide automaton C less E
abbrev pub held_of : Bool → Formula
held_of wide = if wide then Join Sub (Leaf C) (Leaf E) else Leaf C

-- in a wide automaton an expression less another
abbrev pub less_of : Bool → Formula → Formula → Formula
less_of wide e f = if wide then Join Sub e f else e

-- what is found of D and a word, or of D and the worth of two cells: in a wide automaton less the least
abbrev pub found_of : Bool → Operator → Formula → Formula
found_of wide o w = less_of wide (Join o (Leaf D) w) (least (Leaf F))

abbrev pub found_twice_of : Bool → Operator → Formula → Formula
found_twice_of wide o w = less_of wide (twice_by o w) (least (least (Leaf F)))

-- what a shape says of the expressions of C, E, D and F
abbrev pub made_by : Shape → Formula × Formula × Formula × Formula
made_by Kept = (Leaf C, Leaf E, Leaf D, Leaf F)
made_by (Longer f) = (Leaf C, Leaf E, once f, least (Leaf F))
made_by (Begun f) = (Leaf C, Leaf E, cell_start f, Leaf HighAtom)
made_by (Found f) = (once f, least (Leaf F), cell_start f, Leaf HighAtom)
made_by (Inside f) =
    (Join (Fold (cell_op f)) (Leaf C) (once f), Join (Fold Min) (Leaf E) (least (Leaf F)), cell_start f, Leaf HighAtom)
made_by (Ended g f) = (Leaf C, Leaf E, cell_start f, Leaf HighAtom)
made_by (Anew g f) = (range_start g, Leaf Zero, cell_start f, Leaf HighAtom)
made_by (FoundTwice f) = (twice f, least (least (Leaf F)), cell_start f, Leaf HighAtom)
made_by (EndedTwice g f) = (Leaf C, Leaf E, cell_start f, Leaf HighAtom)
made_by (LongerNext f) = (Leaf C, Leaf E, next_to (cell_op f) (Leaf D), next_to Min (Leaf F))
made_by (FoundNext f) = (next_to (cell_op f) (once f), next_to Min (least (Leaf F)), cell_start f, Leaf HighAtom)
made_by (InsideNext f) = (
  Join (Fold (cell_op f)) (Leaf C) (next_to (cell_op f) (Leaf D)),
  Join (Fold Min) (Leaf E) (next_to Min (Leaf F)),
  cell_start f,
  Leaf HighAtom,
)
made_by Other = (Leaf C, Leaf E, Leaf D, Leaf F)

-- what a shape says of the expression of R, which may be joined with what was found or is held
abbrev pub result_by : Bool → Shape → Formula
result_by wide (Ended g f) = Join (Fold (range_op g)) (Leaf R) (found_of wide (Fold (cell_op f)) (cell_word f))
result_by wide (Anew g f) = Join (Fold (range_op g)) (Leaf R) (held_of wide)
result_by wide (EndedTwice g f) =
    Join (Fold (range_op g)) (Leaf R) (found_twice_of wide (Fold (cell_op f)) (cell_word f))
result_by wide _ = Leaf R

-- what a shape says of the split expressions of a move: they are fronts, but where the next cell is read
abbrev pub IsShapeOf : Bool → Shape → Cut → Type 0
IsShapeOf wide (LongerNext f) k = k ≡ of_width wide (longer_tails (cell_op f))
IsShapeOf wide (FoundNext f) k =
    k ≡ of_width wide (found_tails (Fold (cell_op f)) (cell_op f) (cell_word f) (cell_start f))
IsShapeOf wide (InsideNext f) k = k ≡ of_width wide (inside_tails (Fold (cell_op f)) (cell_op f) (cell_start f))
IsShapeOf wide Other k = Unit {0}
IsShapeOf wide s k =
    k ≡ of_width wide (fronts (made_by s).0 (made_by s).1 (made_by s).2 (made_by s).3 (result_by wide s))

-- a move is the emission with these operators: in a wide automaton, where a range is a difference, the greatest cell
-- less the least
abbrev pub AreOperatorsOf : Bool → Move → Operators → Type 0
AreOperatorsOf wide m p = (m.to ≡ emission wide p.ranges p.cells) × (wide ≡ true → p.cells ≡ Max)

-- what is planned of a move: its shape, where on `=` the next cell is read as the cell; how its expressions read the
-- next cell, or that it can't be swept; and its operators
pub record IsMovePlan (wide : Bool) (p : MovePlan) (equal : Bool) (m : Move) : Type 0 where
  pub shape : IsShapeOf wide p.shape (cut_of (here_move equal m))
  pub readings : MatchOption p.readings (all_swept (cut_of m) ≡ false) (AreReadingsOf m)
  pub operators : IfSome p.operators (AreOperatorsOf wide m)

abbrev pub is_equal : Letter → Bool
is_equal Less = false
is_equal Equal = true
is_equal Greater = false

abbrev pub IsPlanAt : Body → ℕ → Letter → MovePlan → Type 0
IsPlanAt b q l p = IsMovePlan b.wide p (is_equal l) (move_at b q l)

-- what is planned of a state: of each move, and that the move on `=` is the same as another only if it is
pub record IsStatePlan (b : Body) (q : ℕ) (p : StatePlan) : Type 0 where
  pub less : IsPlanAt b q Less p.less
  pub equal : IsPlanAt b q Equal p.equal
  pub greater : IsPlanAt b q Greater p.greater
  pub with_less : p.equals ≡ WithLess → move_at b q Equal ≡ move_at b q Less
  pub with_greater : p.equals ≡ WithGreater → move_at b q Equal ≡ move_at b q Greater

abbrev pub unplanned_move : MovePlan
unplanned_move = record { shape = Other; readings = None; operators = None }

abbrev pub unplanned : StatePlan
unplanned = record {
  less = unplanned_move;
  equal = unplanned_move;
  greater = unplanned_move;
  equals = Alone;
  adds = true;
}

-- the plan of an automaton: of each of its states
abbrev pub IsPlanOf : Body → Plan → Type 0
IsPlanOf b p = (q : ℕ) → q < length b.states → IsStatePlan b q (get_or p.states q unplanned)
