use Rattle.std.proofs.lemmas.Bool.{ltb-true}
use Rattle.ts_bound.specs.RowStacks.{all_hulls, all_kept}
use Rattle.ts_bound.proofs.HeldRows.{long_hulls}
use Rattle.ts_bound.proofs.LaidRows.{known_inside}
use Rattle.ts_bound.proofs.row_stack.RowStack.knows.Goals as goal

pub returns : goal.returns
returns c = λ t.
    let p = c.self.inside.planned in let rows = c.self.inside.rows.items in let k = c.self.inside.known in
    known_inside p (all_hulls p.states rows) k c.self.inside.from c.args.at (all_kept p.states rows) c.args.self.now c.self.view_is
    (long_hulls p.states k rows c.self.invariant.0) (ltb-true c.args.at k t)
