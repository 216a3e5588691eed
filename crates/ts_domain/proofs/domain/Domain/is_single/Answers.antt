use Rattle.ts_domain.proofs.MarkedSets.{plain_single}
use Rattle.ts_domain.proofs.domain.Domain.is_single.Goals as goal

pub returns-then-is_empty : goal.returns-then-is_empty
returns-then-is_empty c =
    plain_single c.self.inside.ranges.value.items.items c.self.inside.piece c.self.inside.marks _ c.self.view_is c.self.invariant
    c.is_single.result (c.is_empty.ensures.yes c.if-is_empty.true) c.is_single.ensures
