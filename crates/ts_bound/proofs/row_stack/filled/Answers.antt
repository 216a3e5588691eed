use Rattle.std.proofs.Common.{ap, ◌∙◌, ◌++◌}
use Rattle.std.proofs.lemmas.Iterator.Adapters.{items_from_extend}
use Rattle.std.proofs.lemmas.Iterator.Consumers.{YieldsList-from_first}
use Rattle.ts_bound.proofs.ShownRows.{at_ok}
use Rattle.ts_bound.proofs.row_stack.filled.Goals as goal

pub returns : goal.returns
returns c =
    (at_ok c.in_ok-extend.was
    (items_from_extend c.extend.result c.extend.ensures.ran (YieldsList-from_first (λ x. x) (λ s. s) c.args.domain.now c.values.ensures))).0
    ∙ ap (λ z. z ++ c.args.domain.now) (c.in_ok-reserve.ensures.items ∙ c.requires)
