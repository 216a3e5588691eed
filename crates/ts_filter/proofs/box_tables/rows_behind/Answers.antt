use Rattle.std.proofs.Common.{◌∙◌}
use Rattle.ts_filter.proofs.TableSteps.{back_width}
use Rattle.ts_filter.proofs.box_tables.rows_behind.Goals as goal

pub new-requires : goal.new-requires
new-requires c = back_width c.args.m.now c.in-Some.reverse.now c.in-Some.ensures ∙ c.requires
