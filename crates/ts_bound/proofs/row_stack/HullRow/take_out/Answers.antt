use Rattle.std.proofs.Common.{refl}
use Rattle.ts_bound.proofs.ShownRows.{less_between}
use Rattle.ts_bound.proofs.row_stack.HullRow.take_out.Goals as goal

pub returns : goal.returns
returns c =
    less_between c.args.gone c.args.self.now _ _ _ c.requires.from c.requires.to c.args.gone.ordered c.requires.between refl refl c.take_out.ensures
    c.leave_out.ensures refl refl refl
