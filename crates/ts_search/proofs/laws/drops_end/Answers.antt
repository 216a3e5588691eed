use Rattle.ts_search.proofs.Closing.{drops_end}
use Rattle.ts_search.proofs.NextDrop.{next_drop_fits}
use Rattle.ts_search.proofs.laws.drops_end.Goals as goal

pub returns-clause-next : goal.returns-clause-next
returns-clause-next c = next_drop_fits

pub returns-clause-end : goal.returns-clause-end
returns-clause-end c = drops_end
