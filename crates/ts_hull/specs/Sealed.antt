-- The operations on spans, and the value of an expression and of a move on a hull, under names that stay closed: what
-- they are is opened where it is wanted.
use Rattle.std.specs.Prelude.{ℕ, ℤ, Bool}
use Rattle.ts_base.specs.declared.ext.Ext.{Ext}
use Rattle.ts_base.specs.declared.letter.Letter.{Letter}
use Rattle.ts_base.specs.declared.span.Span.{Span}
use Rattle.ts_base.specs.Spans.{one_span, span_hull, end_by_end}
use Rattle.ts_automaton.specs.declared.regs.Hull.{Hull}
use Rattle.ts_automaton.specs.Formula.{Formula}
use Rattle.ts_automaton.specs.declared.expr.Operator.{Operator}
use Rattle.ts_automaton.specs.declared.expr.Operator.TheVariants.{Fold, Sub}
use Rattle.ts_automaton.specs.Differences.{difference_span}
use Rattle.ts_automaton.specs.Registers.{Values, ext_op, spans_of, value_in}
use Rattle.ts_automaton.specs.Body.{Move, Body, move_on, node_at}
use Rattle.ts_automaton.specs.SpanRun.{has_registers, moved_hull}
use Rattle.ts_hull.specs.Hulls.{hull_of}

-- the hull of two spans
unfoldable pub least_span : Span → Span → Span
least_span s t = span_hull s t

-- an operation, end by end
unfoldable pub by_ends : (Ext → Ext → Ext) → Span → Span → Span
by_ends op s t = end_by_end op s t

-- the first less the second
unfoldable pub less_span : Span → Span → Span
less_span s t = difference_span s t

-- the operators on spans
abbrev pub sealed_op : Operator → Span → Span → Span
sealed_op (Fold o) s t = by_ends (ext_op o) s t
sealed_op Sub s t = less_span s t

abbrev pub sealed_spans : Values Span
sealed_spans = record { constant = one_span; join = sealed_op }

-- the span of an expression on a hull, at the cell x and the next cell y
abbrev pub span_in : Formula → Hull → ℤ → ℤ → Span
span_in f h x y = value_in sealed_spans (spans_of h) x y f

-- the hull of these spans
abbrev pub hull_with : Span → Span → Span → Span → Span → Hull
hull_with c e d f r = record { c = c; e = e; d = d; f = f; r = r }

-- registers lie in the hull
abbrev pub some_hull : Hull → Bool
some_hull h = has_registers (spans_of h)

-- a move on a hull
unfoldable pub after_move : Move → Hull → ℤ → ℤ → Hull
after_move m h x y = hull_of (moved_hull (spans_of h) x y m)

-- the move of state q on a letter
unfoldable pub move_at : Body → ℕ → Letter → Move
move_at b q l = move_on l (node_at b.states q)

-- the span from one end to another
abbrev pub span_from : Ext → Ext → Span
span_from lo hi = record { lo = lo; hi = hi }
