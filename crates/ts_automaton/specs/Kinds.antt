-- Kinds of values, and the kind of an expression: the same meaning of an expression, over kinds in place of numbers.
use Rattle.std.specs.Prelude.{Bool, true, false, IsTrue, pos, is_some, Option, None, Some}
use Rattle.ts_base.specs.declared.ext.Ext.{Ext}
use Rattle.ts_base.specs.declared.ext.Ext.TheVariants.{NegInf, Int as Number, PosInf}
use Rattle.ts_base.specs.declared.span.Span.{Span}
use Rattle.ts_base.specs.Spans.{has_some}
use Rattle.ts_automaton.specs.declared.kind.Kinds.{Kinds}
use Rattle.ts_automaton.specs.declared.kind.RegKind.{RegKind}
use Rattle.ts_automaton.specs.declared.kind.RegKind.TheVariants.{Int, Low, High}
use Rattle.ts_base.specs.declared.op.Op.TheVariants.{Add, Max, Min}
use Rattle.ts_automaton.specs.declared.expr.Operator.{Operator}
use Rattle.ts_automaton.specs.declared.expr.Operator.TheVariants.{Fold, Sub}
use Rattle.ts_automaton.specs.Formula.{Formula}
use Rattle.ts_automaton.specs.Registers.{EachOf, each, map_each, Values, value_in}

-- the narrowest kind of a value: numbers; numbers and -inf; numbers and +inf
abbrev pub kind_of : Ext → RegKind
kind_of NegInf = Low
kind_of (Number x) = Int
kind_of PosInf = High

-- what contracts see of the kinds of all registers
abbrev pub kinds_of : Kinds → EachOf RegKind
kinds_of k = each k.c k.e k.d k.f k.r

-- each value of the first kind is one of the second
abbrev pub is_within : RegKind → RegKind → Bool
is_within Int k = true
is_within Low Int = false
is_within Low Low = true
is_within Low High = false
is_within High Int = false
is_within High Low = false
is_within High High = true

-- the value is one of the kind
abbrev pub HasKind : RegKind → Ext → Type 0
HasKind k e = IsTrue (is_within (kind_of e) k)

-- the span isn't none, and both its ends are of the kind
abbrev pub SpanHasKind : RegKind → Span → Type 0
SpanHasKind k s = IsTrue (has_some s) × HasKind k s.lo × HasKind k s.hi

-- what an operator makes of two kinds; none where it doesn't take them
abbrev pub op_kind : Operator → RegKind → RegKind → Option RegKind
op_kind (Fold Add) Int Int = Some Int
op_kind (Fold Max) Int Int = Some Int
op_kind (Fold Max) Low Int = Some Int
op_kind (Fold Max) Int Low = Some Int
op_kind (Fold Max) Low Low = Some Low
op_kind (Fold Min) Int Int = Some Int
op_kind (Fold Min) High Int = Some Int
op_kind (Fold Min) Int High = Some Int
op_kind (Fold Min) High High = Some High
op_kind Sub Int Int = Some Int
op_kind Sub Low Int = Some Low
op_kind Sub High Int = Some High
op_kind o a b = None

-- of expressions that may be against the typing
abbrev pub join_kind : Operator → Option RegKind → Option RegKind → Option RegKind
join_kind o None b = None
join_kind o (Some a) None = None
join_kind o (Some a) (Some b) = op_kind o a b

abbrev pub kinds : Values (Option RegKind)
kinds = record { constant = λ e. Some (kind_of e); join = join_kind }

-- an operator takes two values where it takes their kinds
abbrev pub Fits : Operator → Ext → Ext → Type 0
Fits o a b = IsTrue (is_some (op_kind o (kind_of a) (kind_of b)))

-- the ends of the second span that it joins with the lower and with the upper end of the first
abbrev pub beside_low : Operator → Span → Ext
beside_low (Fold o) t = t.lo
beside_low Sub t = t.hi

abbrev pub beside_high : Operator → Span → Ext
beside_high (Fold o) t = t.hi
beside_high Sub t = t.lo

-- two spans that aren't none, where it takes the ends that it joins
abbrev pub SpansFit : Operator → Span → Span → Type 0
SpansFit o s t =
    IsTrue (has_some s) × IsTrue (has_some t) × Fits o s.lo (beside_low o t) × Fits o s.hi (beside_high o t)

-- the kind of an expression where the registers have these kinds; none where it is against the typing
abbrev pub formula_kind : EachOf RegKind → Formula → Option RegKind
formula_kind k f = value_in kinds (map_each (λ j. Some j) k) (pos 0) (pos 0) f
