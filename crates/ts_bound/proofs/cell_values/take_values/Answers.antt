use Rattle.std.proofs.Common.{ap, ◌∙◌, ◌++◌}
use Rattle.std.proofs.lemmas.Iterator.Adapters.{items_from_extend}
use Rattle.std.proofs.lemmas.Iterator.Consumers.{YieldsList-from_first}
use Rattle.ts_bound.proofs.CellLists.{at_ok}
use Rattle.ts_bound.proofs.cell_values.take_values.Goals as goal

pub returns-in-Ok-clause-taken : goal.returns-in-Ok-clause-taken
returns-in-Ok-clause-taken c =
    (at_ok c.in-Ok.is
    (items_from_extend c.extend.result c.extend.ensures.ran (YieldsList-from_first (λ x. x) (λ s. s) c.args.domain.now c.values.ensures))).0
    ∙ ap (λ z. z ++ c.args.domain.now) c.clear.ensures.items
