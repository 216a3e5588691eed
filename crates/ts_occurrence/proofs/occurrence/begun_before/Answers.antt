use Rattle.std.proofs.Common.{arith}
use Rattle.ts_occurrence.proofs.Cut.{more_at, done_at}
use Rattle.ts_occurrence.proofs.occurrence.begun_before.Goals as goal

pub loop-kept-preserved : goal.loop-kept-preserved
loop-kept-preserved c =
    record {
      inside = omega arith;
      behind = more_at c.args.cell c.loop-kept.kept c.args.found.now (record { first = 0; last = 0 }) c.loop-kept-test.true c.loop-kept.invariant.inside
          c.if-found-kept.true c.loop-kept.invariant.behind;
    }

pub returns-else-found-kept : goal.returns-else-found-kept
returns-else-found-kept c =
    done_at c.args.cell c.loop-kept.kept c.args.found.now (record { first = 0; last = 0 }) c.loop-kept-test.true c.loop-kept.invariant.inside
    c.if-found-kept.false c.loop-kept.invariant.behind
