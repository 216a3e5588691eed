-- Numbers of at most 10^16 in size.
use Rattle.std.specs.Prelude.{Bool, true, ◌&&◌, ℤ, pos, neg_ℤ, int_le}
use Rattle.ts_base.specs.declared.ext.Ext.{Ext}
use Rattle.ts_base.specs.declared.ext.Ext.TheVariants.{NegInf, Int, PosInf}
use Rattle.ts_base.specs.declared.span.Span.{Span}
use Rattle.ts_automaton.specs.declared.regs.Hull.{Hull}
use Rattle.ts_automaton.specs.Registers.{spans_of}
use Rattle.ts_automaton.specs.Typing.{each_is}

-- no number above 10^16 in size
abbrev pub small_int : ℤ → Bool
small_int x = int_le (neg_ℤ (pos 10000000000000000)) x && int_le x (pos 10000000000000000)

-- no end is a number above 10^16 in size
abbrev pub small : Ext → Bool
small NegInf = true
small (Int x) = small_int x
small PosInf = true

abbrev pub small_span : Span → Bool
small_span s = small s.lo && small s.hi

unfoldable pub small_hull : Hull → Bool
small_hull h = each_is small_span (spans_of h)
