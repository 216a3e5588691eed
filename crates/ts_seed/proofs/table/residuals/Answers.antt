use Rattle.ts_seed.proofs.Plans.{line_read}
use Rattle.ts_seed.proofs.table.residuals.Goals as goal

abbrev pub loop-from-preserved : goal.loop-from-preserved
loop-from-preserved c =
    let before = c.loop-from.invariant in
    let read = line_read _ c.loop-from.residuals.items c.push-in-loop-from.new.self.items c.args.origins.now c.loop-from.from-index _ _
    c.index.result.now c.in_ok-left.left c.letter.result c.loop-from-test.true (record { earlier = before.earlier; rest = before.rest })
    c.index.ensures c.letter.ensures c.in_ok-left.ensures.exact c.in_ok-push-2.ensures.items in
    record { earlier = read.earlier; rest = read.rest }
