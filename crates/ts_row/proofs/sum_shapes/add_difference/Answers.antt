use Rattle.std.proofs.Common.{refl, true}
use Rattle.ts_base.specs.declared.op.Op.TheVariants.{Add}
use Rattle.ts_row.proofs.SumShapes.{fall_moved, rise_moved}
use Rattle.ts_row.proofs.sum_shapes.add_difference.Goals as goal

pub returns-in-Less-clause-moved : goal.returns-in-Less-clause-moved
returns-in-Less-clause-moved g c =
    λ is. rise_moved g.row.N c.args.t.now c.args.on c.args.by true Add c.requires.one _ _ c.requires.adds c.requires.made c.requires.suits c.requires.covered
    c.requires.fit refl c.requires.wide refl c.in-Less.is (c.add_rise.ensures.taken is)

pub returns-in-Greater-clause-moved : goal.returns-in-Greater-clause-moved
returns-in-Greater-clause-moved g c =
    λ is. fall_moved g.row.N c.args.t.now c.args.on c.args.by true Add c.requires.one _ _ c.requires.adds c.requires.made c.requires.suits c.requires.covered
    c.requires.fit refl c.requires.wide refl c.in-Greater.is (c.add_fall.ensures.taken is)
