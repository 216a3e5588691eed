use Rattle.std.proofs.Common.{refl, sym, subst}
use Rattle.ts_base.specs.declared.span.Span.{Span}
use Rattle.ts_filter.specs.SoFar.{IsSoFar}
use Rattle.ts_filter.proofs.SoFarLaws.{none_excludes}
use Rattle.ts_filter.proofs.so_far.SoFar.none.Goals as goal

pub returns-clause-known : goal.returns-clause-known
returns-clause-known c =
    subst (λ (s : Span). IsSoFar (record { asked = c.args.asked; span = s })) (sym c.none-span.ensures)
    (record { form = refl; excluded = none_excludes c.args.asked })
