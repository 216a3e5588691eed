-- Expressions as plain trees.
use Rattle.std.specs.Prelude.{ℕ, ◌+◌, Bool, true, false, ◌&&◌, ◌||◌}
use Rattle.ts_automaton.specs.declared.expr.Atom.{Atom}
use Rattle.ts_automaton.specs.declared.expr.Atom.TheVariants.{C as AtomC, E as AtomE, D as AtomD, F as AtomF, R as AtomR, This as AtomThis, Next as AtomNext, Zero as AtomZero, Unit as AtomUnit, NegInf as AtomNegInf, PosInf as AtomPosInf}
use Rattle.ts_automaton.specs.declared.expr.Operator.{Operator}
use Rattle.ts_automaton.specs.declared.expr.Operator.TheVariants.{Fold, Sub}
use Rattle.ts_base.specs.declared.constant.Constant.{Constant}
use Rattle.ts_base.specs.declared.constant.Constant.TheVariants.{Zero as ZeroConstant, Unit as UnitConstant, NegInf as LowConstant, PosInf as HighConstant}
use Rattle.ts_base.specs.declared.op.Op.{Op}
use Rattle.ts_base.specs.declared.op.Op.TheVariants.{Add as OpAdd, Max as OpMax, Min as OpMin}
use Rattle.ts_automaton.specs.declared.expr.Expr.{Expr, C, E, D, F, R, This, Next, Zero, Unit as UnitExpr, NegInf, PosInf, Add', Sub', Max', Min'}

-- an expression: one word, or an operator over two expressions
pub data Formula : Type 0 where
  Leaf : Atom → Formula
  Join : Operator → Formula → Formula → Formula

-- a constant as an expression of one word
abbrev pub constant_atom : Constant → Atom
constant_atom ZeroConstant = AtomZero
constant_atom UnitConstant = AtomUnit
constant_atom LowConstant = AtomNegInf
constant_atom HighConstant = AtomPosInf

-- what contracts see of an expression
abbrev pub formula : Expr → Formula
formula C = Leaf AtomC
formula E = Leaf AtomE
formula D = Leaf AtomD
formula F = Leaf AtomF
formula R = Leaf AtomR
formula This = Leaf AtomThis
formula Next = Leaf AtomNext
formula Zero = Leaf AtomZero
formula UnitExpr = Leaf AtomUnit
formula NegInf = Leaf AtomNegInf
formula PosInf = Leaf AtomPosInf
formula (Add' p e q f) = Join (Fold OpAdd) (formula e) (formula f)
formula (Sub' p e q f) = Join Sub (formula e) (formula f)
formula (Max' p e q f) = Join (Fold OpMax) (formula e) (formula f)
formula (Min' p e q f) = Join (Fold OpMin) (formula e) (formula f)

-- the number of its words
abbrev pub words_in : Formula → ℕ
words_in (Leaf a) = 1
words_in (Join o f g) = 1 + words_in f + words_in g

-- the operators are the same
abbrev pub is_same_op : Op → Op → Bool
is_same_op OpAdd OpAdd = true
is_same_op OpMax OpMax = true
is_same_op OpMin OpMin = true
is_same_op o p = false

-- a word that stands in narrow automata too
abbrev pub is_narrow_atom : Atom → Bool
is_narrow_atom AtomC = true
is_narrow_atom AtomE = false
is_narrow_atom AtomD = true
is_narrow_atom AtomF = false
is_narrow_atom AtomR = true
is_narrow_atom AtomThis = true
is_narrow_atom AtomNext = true
is_narrow_atom AtomZero = true
is_narrow_atom AtomUnit = true
is_narrow_atom AtomNegInf = true
is_narrow_atom AtomPosInf = true

-- neither E nor F nor a difference stands in it
abbrev pub is_narrow : Formula → Bool
is_narrow (Leaf a) = is_narrow_atom a
is_narrow (Join (Fold o) f g) = is_narrow f && is_narrow g
is_narrow (Join Sub f g) = false

-- it may stand in an automaton of this width
abbrev pub is_of : Bool → Formula → Bool
is_of wide f = wide || is_narrow f

-- the constant 0 alone
abbrev pub is_zero : Formula → Bool
is_zero (Leaf AtomC) = false
is_zero (Leaf AtomE) = false
is_zero (Leaf AtomD) = false
is_zero (Leaf AtomF) = false
is_zero (Leaf AtomR) = false
is_zero (Leaf AtomThis) = false
is_zero (Leaf AtomNext) = false
is_zero (Leaf AtomZero) = true
is_zero (Leaf AtomUnit) = false
is_zero (Leaf AtomNegInf) = false
is_zero (Leaf AtomPosInf) = false
is_zero (Join o f g) = false
