use Rattle.std.proofs.Common.{length, arith, ◌≤◌}
use Rattle.ts_filter.specs.Boxes.{values_at}
use Rattle.ts_filter.proofs.DropLaws.{left_met}
use Rattle.ts_filter.proofs.drops.after_run.Goals as goal

pub returns-clause-left : goal.returns-clause-left
returns-clause-left c =
    let t = c.args.hulls.now in let own = c.args.own in let all = values_at t.cell t.cells in
    let to = c.settled_to.ensures.to in let long = c.requires.size in
    let within : c.settled_to.result ≤ length all = omega (arith, to, long) in
    left_met own.all.now own.term t.machine t.cells t.cell t.ends c.args.asked c.requires.asked.excludes c.args.to c.settled_to.result
    c.settled_to.ensures.from within c.settled_to.ensures.met c.requires.left
