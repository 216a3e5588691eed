-- Hulls that lanes have room for: no number in them is beyond the clamp of sums.
use Rattle.std.specs.Prelude.{ℕ, List, get_or}
use Rattle.ts_base.specs.declared.ext.Ext.{Ext}
use Rattle.ts_base.specs.declared.ext.Ext.TheVariants.{NegInf, Int, PosInf}
use Rattle.ts_base.specs.declared.span.Span.{Span}
use Rattle.ts_automaton.specs.declared.regs.Hull.{Hull}
use Rattle.ts_automaton.specs.Registers.{EachOf, spans_of}
use Rattle.ts_hull.specs.Hulls.{none}
use Rattle.ts_sweep.specs.Packed.{IsWithin}

-- an infinity, or a number of at most 10^17 in size
abbrev pub Fits : Ext → Type 0
Fits NegInf = Unit {0}
Fits (Int x) = IsWithin 10 x
Fits PosInf = Unit {0}

abbrev pub SpanFits : Span → Type 0
SpanFits s = Fits s.lo × Fits s.hi

abbrev pub AllFit : EachOf Span → Type 0
AllFit s = SpanFits s.c × SpanFits s.e × SpanFits s.d × SpanFits s.f × SpanFits s.r

abbrev pub HullFits : Hull → Type 0
HullFits h = AllFit (spans_of h)

abbrev pub HullsFit : List Hull → Type 0
HullsFit hulls = (q : ℕ) → HullFits (get_or hulls q none)
