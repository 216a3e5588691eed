use Rattle.ts_bound.proofs.RoomLaws.{one_machine_more}
use Rattle.ts_bound.proofs.room.has_room.Goals as goal

pub loop-place-preserved : goal.loop-place-preserved
loop-place-preserved c =
    one_machine_more c.args.named.now c.args.machines.now c.args.cells.now c.loop-place.place c.index-machines-place.result c.loop-place.bytes
    c.bytes_at.result c.sum-bytes.result c.loop-place-test.true c.index-machines-place.is
    c.loop-place.invariant c.bytes_at.ensures c.sum-bytes.ensures
