use Rattle.ts_search.proofs.Certified.{open_more}
use Rattle.ts_search.proofs.best.push_open.Goals as goal

pub loop-preserved : goal.loop-preserved
loop-preserved c = open_more c.args.lines.now.items c.loop.lines.items c.push.new.self.items c.loop.counter c.in_ok-push.ensures.items c.loop.invariant
