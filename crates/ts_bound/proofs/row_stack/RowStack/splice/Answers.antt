use Rattle.ts_bound.proofs.LaidRows.{row_above}
use Rattle.ts_bound.proofs.row_stack.RowStack.splice.Goals as goal

pub shrink-requires : goal.shrink-requires
shrink-requires c = row_above c.args.self.now c.truncate.new.self c.args.count c.args.end c.requires c.truncate.ensures

pub returns : goal.returns
returns c = record { there = c.requires; cut = c.truncate.new.self; is_cut = c.truncate.ensures; less = c.shrink.ensures }
