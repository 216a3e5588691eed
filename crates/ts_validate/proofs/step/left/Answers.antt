use Rattle.std.proofs.Common.{arith}
use Rattle.ts_validate.proofs.LeftOver.{left_more, left_last}
use Rattle.ts_validate.proofs.step.left.Goals as goal

pub loop-entry-preserved : goal.loop-entry-preserved
loop-entry-preserved c =
    left_more c.args.table.now c.args.letter c.args.live.now c.loop-entry.entry-index _ c.loop-entry.kept.items c.add_left.new.kept.items c.loop-entry-test.true
    c.loop-entry.invariant c.in_ok-add_left.ensures

pub returns : goal.returns
returns c =
    left_last c.args.table.now c.args.letter c.args.b c.args.live.now c.loop-entry.entry-index c.first_tag.result c.loop-entry.kept.items
    c.add_left-2.new.kept.items (omega arith) c.first_tag.ensures c.loop-entry.invariant c.in_ok-add_left-2.ensures
