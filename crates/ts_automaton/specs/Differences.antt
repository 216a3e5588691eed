-- Differences of numbers and of spans, and what an operator of expressions makes of two.
use Rattle.std.specs.Prelude.{◌-ℤ◌, ◌&&◌, if◌then◌else◌}
use Rattle.ts_base.specs.declared.ext.Ext.{Ext}
use Rattle.ts_base.specs.declared.ext.Ext.TheVariants.{NegInf, Int, PosInf}
use Rattle.ts_base.specs.declared.span.Span.{Span}
use Rattle.ts_base.specs.Numbers.{clamp}
use Rattle.ts_base.specs.Operators.{ext_op}
use Rattle.ts_base.specs.Spans.{none_span, has_some, end_by_end}
use Rattle.ts_automaton.specs.declared.expr.Operator.{Operator}
use Rattle.ts_automaton.specs.declared.expr.Operator.TheVariants.{Fold, Sub}

-- the first less the second: of two numbers their difference, clamped; else -∞ where the first is -∞ or the second +∞;
-- else +∞
abbrev pub difference : Ext → Ext → Ext
difference NegInf b = NegInf
difference (Int x) NegInf = PosInf
difference (Int x) (Int y) = Int (clamp (x -ℤ y))
difference (Int x) PosInf = NegInf
difference PosInf NegInf = PosInf
difference PosInf (Int y) = PosInf
difference PosInf PosInf = NegInf

-- from the least difference to the greatest; none where one is none
abbrev pub difference_span : Span → Span → Span
difference_span s t =
    if has_some s && has_some t then record { lo = difference s.lo t.hi; hi = difference s.hi t.lo } else none_span

-- what an operator makes of two numbers, and of two spans
abbrev pub number_op : Operator → Ext → Ext → Ext
number_op (Fold o) a b = ext_op o a b
number_op Sub a b = difference a b

abbrev pub span_op : Operator → Span → Span → Span
span_op (Fold o) s t = end_by_end (ext_op o) s t
span_op Sub s t = difference_span s t
