use Rattle.std.proofs.Common.{rules}
use Rattle.std.proofs.lemmas.Int.{to_z-of_z}
use mir.Syntax.{w64}
use Rattle.ts_frontier.proofs.Halves.{least_next, only_values}
use Rattle.ts_frontier.proofs.halve.only_series.Goals as goal

pub loop-i-preserved : goal.loop-i-preserved
loop-i-preserved c =
    least_next c.args.b.now.present c.loop-i.i c.cells-i-end.result _ c.loop-i.series.items c.push.new.self.items c.least.result _
    c.loop-i-test.true c.cells-i-end.ensures.count c.cell.ensures c.least.ensures.value (to_z-of_z w64 c.least.result (search rules))
    c.in_ok-push.ensures.items c.loop-i.invariant

pub returns : goal.returns
returns c =
    only_values c.args.b.now.present c.loop-i.series.items c.cells-i-end.result c.loop-i.i c.loop-i-test.false c.cells-i-end.ensures.count
    c.loop-i.invariant
