-- What a question finds in two spans alike, and when one end of a span is enough for it.
use Rattle.std.specs.Prelude.{◌≡◌, ◌↔◌, ℕ, Contains}
use Rattle.ts_base.specs.declared.ext.Ext.{Ext}
use Rattle.ts_base.specs.declared.span.Span.{Span}
use Rattle.ts_base.specs.Spans.{span_hull}
use Rattle.ts_automaton.specs.declared.state.Mark.{Mark}
use Rattle.ts_automaton.specs.AutomatonRun.{under_mark}
use Rattle.ts_automaton.specs.SpanRun.{marked_span}
use Rattle.ts_sweep.specs.Sides.{Sides, seen}
use Rattle.ts_model.specs.declared.model.Op.{Op}
use Rattle.ts_model.specs.declared.model.Require.{Require}
use Rattle.ts_model.specs.Compares.{compares}
use Rattle.ts_filter.specs.declared.question.Question.{Question}
use Rattle.ts_filter.specs.declared.question.Question.TheVariants.{Compares, MeetsEach, Counts, Ranks}
use Rattle.ts_filter.specs.Ends.{best_end}
use Rattle.ts_filter.specs.Excluded.{Refutes, Cuts}

-- a comparison with the bound is refuted by both spans, or by neither
abbrev pub AreRefutedAlike : Op → Ext → Span → Span → Type 0
AreRefutedAlike op bound s t = Refutes op bound s ↔ Refutes op bound t

-- both spans refute the same comparisons of a question, and have the same best end where that is asked for
abbrev pub AreAlike : Question → Span → Span → Type 0
AreAlike (Compares op bound) s t = AreRefutedAlike op bound s t
AreAlike (MeetsEach own) s t =
    (r : Require) → Contains own.all.now r → r.term ≡ own.term → AreRefutedAlike r.op r.bound s t
AreAlike (Counts goal bar) s t = Cuts goal bar s ↔ Cuts goal bar t
AreAlike (Ranks goal) s t = best_end goal s ≡ best_end goal t

-- a question finds the same in both spans, whatever other span is joined to them
abbrev pub FindsAlike : Question → Span → Span → Type 0
FindsAlike asked s t = (u : Span) → AreAlike asked (span_hull u s) (span_hull u t)

-- the ends that are kept are enough for the question, under the mark, for series of n cells
abbrev pub IsServed : Sides → Mark → ℕ → Question → Type 0
IsServed ends mark n asked = (s : Span) → FindsAlike asked (marked_span mark n (seen ends s)) (marked_span mark n s)

-- under the mark each number meets the comparison with the bound exactly where it did without
abbrev pub MarkKeeps : Mark → ℕ → Op → Ext → Type 0
MarkKeeps mark n op bound = (v : Ext) → compares op bound (under_mark mark n v) ≡ compares op bound v
