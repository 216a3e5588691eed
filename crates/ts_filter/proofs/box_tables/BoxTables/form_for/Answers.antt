use Rattle.ts_filter.proofs.SeenEnds.{both_serve}
use Rattle.ts_filter.proofs.box_tables.BoxTables.form_for.Goals as goal

pub returns-then-ne-clause-served : goal.returns-then-ne-clause-served
returns-then-ne-clause-served c = both_serve _ _ _ _ c.whole-whole.ensures.both
