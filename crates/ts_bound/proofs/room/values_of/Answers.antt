use Rattle.ts_bound.proofs.RoomLaws.{one_cell_more}
use Rattle.ts_bound.proofs.room.values_of.Goals as goal

pub loop-i-preserved : goal.loop-i-preserved
loop-i-preserved c =
    one_cell_more c.args.window c.args.cells.now c.loop-i.i c.index-cells-i.result c.loop-i.values c.counted.result c.sum-values.result
    c.loop-i-test.true c.index-cells-i.is
    c.loop-i.invariant c.counted.ensures c.sum-values.ensures
