use Rattle.ts_bound.proofs.ShownRows.{lost_of_kept}
use Rattle.ts_bound.proofs.row_stack.HullRow.shrink.Goals as goal

pub returns : goal.returns
returns c = lost_of_kept c.args.gone c.args.before.now c.args.self.now c.keep.new.self c.lose.new.self c.keep.ensures c.lose.ensures
