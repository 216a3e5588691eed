use Rattle.ts_user.proofs.KeyLaws.{key_more}
use Rattle.ts_user.proofs.keys.configuration_key.Goals as goal

pub loop-entry-preserved : goal.loop-entry-preserved
loop-entry-preserved c =
    key_more c.args.x.now.state c.as_slice-entry-items.result.now c.loop-entry.entry-index _ c.loop-entry.key.items c.push-in-loop-entry.new.self.items
    c.push-in-loop-entry-2.new.self.items c.tag_number.result c.loop-entry-test.true c.loop-entry.invariant c.in_ok-push-2.ensures.items
    c.tag_number.ensures c.in_ok-push-3.ensures.items
