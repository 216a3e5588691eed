use Rattle.std.proofs.Common.{◌≡◌, length, rules}
use Rattle.ts_regex.specs.Shape.{shape_of}
use Rattle.ts_user.specs.BuildAnswers.{unplanned_of}
use Rattle.ts_user.proofs.Plans.{all_taken}
use Rattle.ts_user.proofs.plan.expand_all.Goals as goal

pub returns-clause-whole : goal.returns-clause-whole
returns-clause-whole c =
    let size : c.len.result ≡ length c.loop-next.listing.configurations.items = search rules in
    all_taken (unplanned_of c.args.rows.now c.args.p.now) (shape_of c.args.p.now.regex) c.loop-next.listing c.loop-next.next c.len.result
    c.loop-next.invariant.listed c.loop-next.invariant.ready c.loop-next.invariant.inside size c.loop-next-test.false
