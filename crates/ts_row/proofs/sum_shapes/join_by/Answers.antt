use Rattle.ts_base.specs.declared.op.Op.TheVariants.{Add, Max, Min}
use Rattle.ts_row.proofs.SumShapes.{known_op}
use Rattle.ts_row.proofs.sum_shapes.join_by.Goals as goal

pub returns-in-Add-clause-taken : goal.returns-in-Add-clause-taken
returns-in-Add-clause-taken g c = λ is. known_op g.row.N c.args.t.now c.args.on Add c.args.ranges c.args.greatest _ _ c.in-Add.is (c.join_cell.ensures.taken is)

pub returns-in-Max-clause-taken : goal.returns-in-Max-clause-taken
returns-in-Max-clause-taken g c =
    λ is. known_op g.row.N c.args.t.now c.args.on Max c.args.ranges c.args.greatest _ _ c.in-Max.is (c.join_cell-in-Max.ensures.taken is)

pub returns-in-Min-clause-taken : goal.returns-in-Min-clause-taken
returns-in-Min-clause-taken g c =
    λ is. known_op g.row.N c.args.t.now c.args.on Min c.args.ranges c.args.greatest _ _ c.in-Min.is (c.join_cell-in-Min.ensures.taken is)
