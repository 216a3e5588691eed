use Rattle.std.proofs.Common.{refl}
use Rattle.ts_filter.proofs.TableRows.{nothing_known}
use Rattle.ts_filter.proofs.box_tables.BoxTables.forget.Goals as goal

pub returns-clause-known : goal.returns-clause-known
returns-clause-known c = λ cells. nothing_known _ _ _ _ _ _ _ cells c.clear.ensures c.clear-2.ensures c.clear-3.ensures.items refl
