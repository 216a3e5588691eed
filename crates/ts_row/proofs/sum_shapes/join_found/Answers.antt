use Rattle.std.proofs.Common.{refl, true, false}
use Rattle.ts_row.proofs.SumShapes.{cell_moved}
use Rattle.ts_row.proofs.sum_shapes.join_found.Goals as goal

pub returns-in-Max-clause-moved : goal.returns-in-Max-clause-moved
returns-in-Max-clause-moved g c =
    λ is. cell_moved g.row.N c.args.t.now c.args.on c.args.by true c.args.by.ranges c.in-Max.is _ _ refl c.requires.made c.requires.suits
    c.requires.covered c.requires.fit c.requires.narrow (c.join_by.ensures.taken is)

pub returns-in-Min-clause-moved : goal.returns-in-Min-clause-moved
returns-in-Min-clause-moved g c =
    λ is. cell_moved g.row.N c.args.t.now c.args.on c.args.by false c.args.by.ranges c.in-Min.is _ _ refl c.requires.made c.requires.suits
    c.requires.covered c.requires.fit c.requires.narrow (c.join_by-in-Min.ensures.taken is)
