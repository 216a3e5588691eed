-- What is known of a span while its parts are taken in, one after the other.
use Rattle.std.specs.Prelude.{◌≡◌, List, fold, Option, None, Some}
use Rattle.ts_base.specs.declared.span.Span.{Span}
use Rattle.ts_base.specs.Spans.{none_span, span_hull}
use Rattle.ts_filter.specs.declared.question.Question.{Question}
use Rattle.ts_filter.specs.declared.so_far.SoFar.{SoFar}
use Rattle.ts_filter.specs.Alike.{FindsAlike}
use Rattle.ts_filter.specs.Question.{Excludes}

-- the hull has its one form where it is none, and doesn't have what is asked
pub record IsSoFar (s : SoFar) : Type 0 where
  pub form : span_hull s.span none_span ≡ s.span
  pub excluded : Excludes s.asked s.span

-- the hull with these parts, as far as the question finds; none where it has what is asked
abbrev pub WithParts : SoFar → List Span → Option SoFar → Type 0
WithParts s parts None = Excludes s.asked (fold span_hull s.span parts) → ⊥
WithParts s parts (Some t) =
    (t.asked ≡ s.asked) × FindsAlike s.asked t.span (fold span_hull s.span parts) × IsSoFar t

-- the whole span, as far as the question finds, which doesn't have what is asked; none where that has it
abbrev pub IsWholeSpan : Question → Span → Option SoFar → Type 0
IsWholeSpan asked s None = Excludes asked s → ⊥
IsWholeSpan asked s (Some t) = FindsAlike asked t.span s × Excludes asked s
