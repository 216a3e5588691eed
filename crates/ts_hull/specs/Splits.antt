-- Fronts and tails of an expression: what of it doesn't read the next cell, and how the next cell comes in.
use Rattle.std.specs.Prelude.{ℕ, ◌+◌, min, Bool, true, false, cond, not, ◌&&◌, nat_le, ℤ, pos}
use Rattle.ts_base.specs.declared.ext.Ext.TheVariants.{Int}
use Rattle.ts_base.specs.declared.span.Span.{Span}
use Rattle.ts_base.specs.Spans.{none_span, one_span}
use Rattle.ts_automaton.specs.declared.expr.Atom.{Atom}
use Rattle.ts_automaton.specs.declared.expr.Atom.TheVariants.{C, E, D, F, R, This, Next, Zero, Unit as UnitAtom, NegInf as LowAtom, PosInf as HighAtom}
use Rattle.ts_automaton.specs.declared.expr.Operator.TheVariants.{Fold, Sub}
use Rattle.ts_base.specs.declared.op.Op.{Op}
use Rattle.ts_automaton.specs.declared.regs.Hull.{Hull}
use Rattle.ts_automaton.specs.Formula.{Formula, Leaf, Join, is_same_op}
use Rattle.ts_automaton.specs.Registers.{ext_op}
use Rattle.ts_hull.specs.Sealed.{by_ends, span_in}

-- the word is the next cell
abbrev pub is_next_word : Atom → Bool
is_next_word C = false
is_next_word E = false
is_next_word D = false
is_next_word F = false
is_next_word R = false
is_next_word This = false
is_next_word Next = true
is_next_word Zero = false
is_next_word UnitAtom = false
is_next_word LowAtom = false
is_next_word HighAtom = false

abbrev pub is_next : Formula → Bool
is_next (Leaf a) = is_next_word a
is_next (Join o f g) = false

-- the next cell doesn't stand in it
abbrev pub is_front : Formula → Bool
is_front (Leaf a) = not (is_next_word a)
is_front (Join o f g) = is_front f && is_front g

-- how many operands stand in it, counted up to 255
abbrev pub operands : Formula → ℕ
operands (Leaf a) = 1
operands (Join o f g) = min (operands f + operands g) 255

-- a front; an operator with a front before the next cell, which is no difference; or neither
pub data Split : Type 0 where
  FrontOf : Formula → Split
  TailOf : Op → Formula → Split
  ByPairs : Split

-- `o e (p f r)` is `o (o e f) r`, where r is the next cell: with so few operands no sum of small numbers is clamped
abbrev pub is_double : Op → Op → Formula → Formula → Formula → Bool
is_double o p e f r =
    is_same_op o p && (is_next r && (is_front e && (is_front f && nat_le (operands e + operands f) 7)))

abbrev pub tail_of : Op → Formula → Formula → Split
tail_of o e (Leaf a) = cond (is_next_word a && is_front e) (TailOf o e) ByPairs
tail_of o e (Join (Fold p) f r) = cond (is_double o p e f r) (TailOf o (Join (Fold o) e f)) ByPairs
tail_of o e (Join Sub f r) = ByPairs

abbrev pub split_formula : Formula → Split
split_formula (Leaf a) = cond (is_next_word a) ByPairs (FrontOf (Leaf a))
split_formula (Join (Fold o) e r) = cond (is_front e && is_front r) (FrontOf (Join (Fold o) e r)) (tail_of o e r)
split_formula (Join Sub e r) = cond (is_front e && is_front r) (FrontOf (Join Sub e r)) ByPairs

abbrev pub is_swept : Split → Bool
is_swept (FrontOf e) = true
is_swept (TailOf o e) = true
is_swept ByPairs = false

-- the next cell doesn't come in
abbrev pub is_whole : Split → Bool
is_whole (FrontOf e) = true
is_whole (TailOf o e) = false
is_whole ByPairs = false

-- the span of the front; and what the next cell y makes of the hull of fronts
abbrev pub front_span : Split → Hull → ℤ → Span
front_span (FrontOf e) h x = span_in e h x (pos 0)
front_span (TailOf o e) h x = span_in e h x (pos 0)
front_span ByPairs h x = none_span

abbrev pub closed_span : Split → Span → ℤ → Span
closed_span (FrontOf e) s y = s
closed_span (TailOf o e) s y = by_ends (ext_op o) s (one_span (Int y))
closed_span ByPairs s y = none_span
