use Rattle.std.proofs.Common.{arith}
use Rattle.ts_validate.proofs.Knowing.{known_none, known_more, known_all, still_there, still_few}
use Rattle.ts_validate.proofs.knowledge.know_all.Goals as goal

pub loop-i-init : goal.loop-i-init
loop-i-init c =
    known_none c.args.residuals.now c.in_ok-listed.listed c.new-table.result.items c.in_ok-listed.ensures.sound c.in_ok-listed.ensures.residuals
    c.new-table.ensures.items

pub know-requires-clause-there : goal.know-requires-clause-there
know-requires-clause-there c =
    still_there c.args.residuals.now c.loop-i.listed c.loop-i.i c.loop-i.table.items c.loop-i.invariant c.loop-i-test.true

pub know-requires-clause-room : goal.know-requires-clause-room
know-requires-clause-room c =
    still_few c.args.residuals.now c.loop-i.listed c.loop-i.i 4000000000 c.loop-i.table.items c.loop-i.invariant c.requires

pub loop-i-preserved : goal.loop-i-preserved
loop-i-preserved c =
    let k = c.in_ok-know.ensures in
    known_more c.args.residuals.now c.loop-i.listed c.know.new.residuals c.loop-i.i c.in_ok-know.field-0 c.loop-i.table.items c.push.new.self.items
    c.loop-i-test.true c.loop-i.invariant k.sound k.residuals k.known c.in_ok-push.ensures.items

pub returns : goal.returns
returns c =
    known_all c.args.residuals.now c.loop-i.listed c.loop-i.i c.loop-i.table.items (omega arith) c.loop-i.invariant
