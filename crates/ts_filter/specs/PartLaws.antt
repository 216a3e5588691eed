-- What a span excludes, each part of it does.
use Rattle.ts_base.specs.declared.span.Span.{Span}
use Rattle.ts_base.specs.SpanLayer.{IsWithin}
use Rattle.ts_filter.specs.declared.question.Question.{Question}
use Rattle.ts_filter.specs.declared.question.Question.TheVariants.{Compares, MeetsEach, Counts, Ranks}
use Rattle.ts_filter.specs.Question.{Excludes}

pub part_excludes : (asked : Question) (s t : Span) → IsWithin s t → Excludes asked t → Excludes asked s
part_excludes (Compares op bound) s t within none = λ v held. none v (within v held)
part_excludes (MeetsEach own) s t within none =
    let h = none.1 in (
      none.0,
      record {
        require = h.require;
        is = h.is;
        of_term = h.of_term;
        refutes = λ v held. h.refutes v (within v held);
      },
    )
part_excludes (Counts goal bar) s t within none = λ v held. none v (within v held)
part_excludes (Ranks goal) s t within none = tt
