use Rattle.std.proofs.Common.{◌≡◌, ◌<◌, pos, get_or, length, rules, arith}
use Rattle.ts_sweep.specs.SidesLaws.{upper_at, lower_at}
use Rattle.ts_sweep.proofs.packed.ends_at.Goals as goal

pub returns-then-this-eq-UPPER : goal.returns-then-this-eq-UPPER
returns-then-this-eq-UPPER g c =
    let inside : c.args.p < length c.args.at.now = search rules in
    upper_at g.row.N c.args.p c.args.at.now _ c.if-this-eq-UPPER.true inside (search rules)

pub returns-then-this-eq-LOWER : goal.returns-then-this-eq-LOWER
returns-then-this-eq-LOWER g c =
    let inside : c.args.p < length c.args.at.now = search rules in
    lower_at g.row.N c.args.p c.args.at.now _ c.if-this-eq-LOWER.true inside (search rules)
