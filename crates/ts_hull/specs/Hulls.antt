-- Hulls of registers: the form that the code has, and the hull of several.
use Rattle.std.specs.Prelude.{List, fold}
use Rattle.ts_base.specs.declared.span.Span.{Span}
use Rattle.ts_base.specs.Spans.{span_hull}
use Rattle.ts_automaton.specs.declared.regs.Hull.{Hull}
use Rattle.ts_automaton.specs.Registers.{EachOf, each, spans_of}
use Rattle.ts_automaton.specs.SpanRun.{none_hull}

-- the hull with these spans
abbrev pub hull_of : EachOf Span → Hull
hull_of s = record { c = s.c; e = s.e; d = s.d; f = s.f; r = s.r }

abbrev pub none : Hull
none = hull_of none_hull

abbrev pub both_spans : EachOf Span → EachOf Span → EachOf Span
both_spans s t =
    each (span_hull s.c t.c) (span_hull s.e t.e) (span_hull s.d t.d) (span_hull s.f t.f) (span_hull s.r t.r)

-- the hull of two, register by register
unfoldable pub hull_of_both : Hull → Hull → Hull
hull_of_both h k = hull_of (both_spans (spans_of h) (spans_of k))

-- the hull of all, in their order; none where there is none
abbrev pub hull_of_all : List Hull → Hull
hull_of_all hs = fold hull_of_both none hs
