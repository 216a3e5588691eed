use Rattle.std.proofs.Common.{arith}
use Rattle.std.proofs.lemmas.Int.{ints}
use Rattle.ts_domain.proofs.Runs.{length-between}
use Rattle.ts_domain.proofs.interval.Interval.count.Goals as goal

pub returns : goal.returns
returns c =
    let n = length-between c.args.self.low c.args.self.high (omega (arith, ints, c.requires.ordered)) in
    omega (arith, ints, n, c.requires.from, c.requires.ordered, c.requires.to)
