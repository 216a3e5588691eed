-- A span doesn't have what is asked of its numbers.
use Rattle.std.specs.Prelude.{◌≡◌, ◌↔◌, Contains}
use Rattle.ts_base.specs.declared.span.Span.{Span}
use Rattle.ts_filter.specs.declared.question.Question.{Question}
use Rattle.ts_filter.specs.declared.question.Question.TheVariants.{Compares, MeetsEach, Counts, Ranks}
use Rattle.ts_filter.specs.Excluded.{Refutes, Cuts}
use Rattle.ts_filter.specs.TermDrops.{RefutesSome}
use Rattle.ts_filter.specs.declared.term_requirements.TermRequirements.{TermRequirements}
use Rattle.ts_filter.specs.Alike.{AreAlike}

-- of a best end nothing is asked
abbrev pub Excludes : Question → Span → Type 0
Excludes (Compares op bound) s = Refutes op bound s
Excludes (MeetsEach own) s = RefutesSome own.all.now own.term s
Excludes (Counts goal bar) s = Cuts goal bar s
Excludes (Ranks goal) s = Unit {0}

-- the question is whether each requirement of a term is met by some number, and it finds alike what each of them does
pub record AsksEach (own : TermRequirements) (asked : Question) : Type 0 where
  pub excludes : (s : Span) → Excludes asked s ↔ RefutesSome own.all.now own.term s
  pub alike : (s t : Span) → AreAlike asked s t → AreAlike (MeetsEach own) s t
