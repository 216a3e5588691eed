-- Spans: all numbers between two ends, with one form for the span that holds none.
use Rattle.std.specs.Prelude.{Bool, ◌&&◌, IsTrue, if◌then◌else◌}
use Rattle.ts_base.specs.declared.ext.Ext.{Ext}
use Rattle.ts_base.specs.declared.ext.Ext.TheVariants.{NegInf, PosInf}
use Rattle.ts_base.specs.declared.span.Span.{Span}
use Rattle.ts_base.specs.Numbers.{ext_le, ext_max, ext_min, ext_plus}

-- the one form of a span that holds no number
abbrev pub none_span : Span
none_span = record { lo = PosInf; hi = NegInf }

-- one number alone
abbrev pub one_span : Ext → Span
one_span e = record { lo = e; hi = e }

-- it holds a number
abbrev pub has_some : Span → Bool
has_some s = ext_le s.lo s.hi

-- it holds e: its numbers go from its lower to its upper end
abbrev pub Holds : Span → Ext → Type 0
Holds s e = IsTrue (ext_le s.lo e) × IsTrue (ext_le e s.hi)

-- the span of all numbers that either holds
abbrev pub span_hull : Span → Span → Span
span_hull s t =
    if has_some s
    then if has_some t then record { lo = ext_min s.lo t.lo; hi = ext_max s.hi t.hi } else s
    else if has_some t then t else none_span

-- an operation on the lower and on the upper ends; none where one is none
abbrev pub end_by_end : (Ext → Ext → Ext) → Span → Span → Span
end_by_end op s t = if has_some s && has_some t then record { lo = op s.lo t.lo; hi = op s.hi t.hi } else none_span

-- the sums
abbrev pub span_plus : Span → Span → Span
span_plus = end_by_end ext_plus

-- the greater of two
abbrev pub span_greatest : Span → Span → Span
span_greatest = end_by_end ext_max

-- the lesser of two
abbrev pub span_least : Span → Span → Span
span_least = end_by_end ext_min
