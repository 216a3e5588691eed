-- What the layers above know of operations on spans.
use Rattle.std.specs.Prelude.{◌≡◌, IsTrue, false}
use Rattle.ts_base.specs.declared.ext.Ext.{Ext}
use Rattle.ts_base.specs.declared.span.Span.{Span}
use Rattle.ts_base.specs.Spans.{none_span, has_some, Holds}

-- every number of s is one of t
abbrev pub IsWithin : Span → Span → Type 0
IsWithin s t = (e : Ext) → Holds s e → Holds t e

-- an operation on spans that stands for one on numbers
pub record IsEndByEnd (op : Ext → Ext → Ext) (lifted : Span → Span → Span) : Type 0 where
  -- its ends are those of the ends, where both operands hold a number, and then it holds one
  pub ends : (s t : Span) → IsTrue (has_some s) → IsTrue (has_some t) →
      lifted s t ≡ record { lo = op s.lo t.lo; hi = op s.hi t.hi }
  pub some : (s t : Span) → IsTrue (has_some s) → IsTrue (has_some t) → IsTrue (has_some (lifted s t))
  -- it is none, in its one form, where an operand is none
  pub none_first : (s t : Span) → has_some s ≡ false → lifted s t ≡ none_span
  pub none_second : (s t : Span) → has_some t ≡ false → lifted s t ≡ none_span
  -- it holds the result of every two numbers of its operands
  pub holds : (s t : Span) (a b : Ext) → Holds s a → Holds t b → Holds (lifted s t) (op a b)
  -- it is within that of wider operands
  pub monotone : (s t u v : Span) → IsWithin s u → IsWithin t v → IsWithin (lifted s t) (lifted u v)

-- the least span that holds what either operand holds
pub record IsLeastHull (hull : Span → Span → Span) : Type 0 where
  pub first : (s t : Span) → IsWithin s (hull s t)
  pub second : (s t : Span) → IsWithin t (hull s t)
  pub least : (s t u : Span) → IsWithin s u → IsWithin t u → IsWithin (hull s t) u
  -- with a none it is the other operand, and of two none it is none in its one form
  pub none_first : (s t : Span) → has_some s ≡ false → IsTrue (has_some t) → hull s t ≡ t
  pub none_second : (s t : Span) → IsTrue (has_some s) → has_some t ≡ false → hull s t ≡ s
  pub none_both : (s t : Span) → has_some s ≡ false → has_some t ≡ false → hull s t ≡ none_span
