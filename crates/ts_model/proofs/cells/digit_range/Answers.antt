use Rattle.std.proofs.Common.{◌∙◌, ◌++◌, ◌∷◌, [], List, ap, pos}
use Rattle.ts_domain.specs.declared.interval.Interval.{Interval}
use Rattle.ts_model.proofs.cells.digit_range.Goals as goal

pub returns : goal.returns
returns c = c.in_ok-push.ensures.items ∙ ap (λ (rs : List Interval). rs ++ record { low = pos 0; high = pos 9 } ∷ []) c.in_ok-ranges.ensures.items
