-- The words of an expression, operators first, and the expression that words are.
use Rattle.std.specs.Prelude.{ℕ, codes, Bool, List, [], ◌∷◌, ◌++◌, length, map, reverse, if◌then◌else◌, nat_le, Option, Some, None}
use Rattle.std.specs.Str.{bytes_eq}
use Rattle.std.specs.Borrow.{Bor}
use Rattle.ts_automaton.specs.declared.expr.Expr.{Expr}
use Rattle.ts_automaton.specs.declared.expr.Atom.{Atom}
use Rattle.ts_automaton.specs.declared.expr.Atom.TheVariants.{C as AtomC, E as AtomE, D as AtomD, F as AtomF, R as AtomR, This as AtomThis, Next as AtomNext, Zero as AtomZero, Unit as AtomUnit, NegInf as AtomNegInf, PosInf as AtomPosInf}
use Rattle.ts_automaton.specs.declared.expr.Operator.{Operator}
use Rattle.ts_automaton.specs.declared.expr.Operator.TheVariants.{Fold, Sub}
use Rattle.ts_base.specs.declared.op.Op.TheVariants.{Add as OpAdd, Max as OpMax, Min as OpMin}
use Rattle.ts_automaton.specs.Formula.{Formula, Leaf, Join, formula, is_of}

abbrev pub atom_word : Atom → List ℕ
atom_word AtomC = codes "C"
atom_word AtomE = codes "E"
atom_word AtomD = codes "D"
atom_word AtomF = codes "F"
atom_word AtomR = codes "R"
atom_word AtomThis = codes "x"
atom_word AtomNext = codes "y"
atom_word AtomZero = codes "0"
atom_word AtomUnit = codes "1"
atom_word AtomNegInf = codes "-inf"
atom_word AtomPosInf = codes "+inf"

abbrev pub op_word : Operator → List ℕ
op_word (Fold OpAdd) = codes "add"
op_word (Fold OpMax) = codes "max"
op_word (Fold OpMin) = codes "min"
op_word Sub = codes "sub"

-- the words of an expression: the operator before its operands
abbrev pub formula_words : Formula → List (List ℕ)
formula_words (Leaf a) = atom_word a ∷ []
formula_words (Join o f g) = op_word o ∷ (formula_words f ++ formula_words g)

unfoldable pub atom_of : List ℕ → Option Atom
atom_of w =
    if bytes_eq w (codes "C") then Some AtomC
    else (if bytes_eq w (codes "E") then Some AtomE
    else (if bytes_eq w (codes "D") then Some AtomD
    else (if bytes_eq w (codes "F") then Some AtomF
    else (if bytes_eq w (codes "R") then Some AtomR
    else (if bytes_eq w (codes "x") then Some AtomThis
    else (if bytes_eq w (codes "y") then Some AtomNext
    else (if bytes_eq w (codes "0") then Some AtomZero
    else (if bytes_eq w (codes "1") then Some AtomUnit
    else (if bytes_eq w (codes "-inf") then Some AtomNegInf
    else (if bytes_eq w (codes "+inf") then Some AtomPosInf
    else None))))))))))

unfoldable pub op_of : List ℕ → Option Operator
op_of w =
    if bytes_eq w (codes "add") then Some (Fold OpAdd)
    else (if bytes_eq w (codes "max") then Some (Fold OpMax)
    else (if bytes_eq w (codes "min") then Some (Fold OpMin)
    else (if bytes_eq w (codes "sub") then Some Sub
    else None)))

-- a word before these expressions: an operand is one more, an operator takes the first two
abbrev pub stacked_by : Option Atom → Option Operator → List Formula → Option (List Formula)
stacked_by (Some a) o fs = Some (Leaf a ∷ fs)
stacked_by None None fs = None
stacked_by None (Some o) [] = None
stacked_by None (Some o) (f ∷ []) = None
stacked_by None (Some o) (f ∷ g ∷ fs) = Some (Join o f g ∷ fs)

abbrev pub stack_word : List ℕ → List Formula → Option (List Formula)
stack_word w fs = stacked_by (atom_of w) (op_of w) fs

abbrev pub onto_stack : List ℕ → Option (List Formula) → Option (List Formula)
onto_stack w None = None
onto_stack w (Some fs) = stack_word w fs

-- the expressions that these words are, one after the other
abbrev pub stack_of : List (List ℕ) → Option (List Formula)
stack_of [] = Some []
stack_of (w ∷ ws) = onto_stack w (stack_of ws)

abbrev pub only_one : Option (List Formula) → Option Formula
only_one None = None
only_one (Some []) = None
only_one (Some (f ∷ [])) = Some f
only_one (Some (f ∷ g ∷ fs)) = None

-- the one expression that these words are, of which there are at most 15
abbrev pub any_formula_of : List (List ℕ) → Option Formula
any_formula_of ws = if nat_le (length ws) 15 then only_one (stack_of ws) else None

-- if it may stand in an automaton of this width
abbrev pub of_width : Bool → Option Formula → Option Formula
of_width wide None = None
of_width wide (Some f) = if is_of wide f then Some f else None

abbrev pub formula_of : Bool → List (List ℕ) → Option Formula
formula_of wide ws = of_width wide (any_formula_of ws)

-- the texts of borrowed words
abbrev pub texts : List (Bor (List ℕ)) → List (List ℕ)
texts words = map (λ w. w.now) words

-- a stack, the expression pushed last first
abbrev pub stack_seen : List Expr → List Formula
stack_seen es = reverse (map formula es)
