use Rattle.std.proofs.Common.{◌<◌, arith}
use Rattle.ts_validate.proofs.Tours.{earlier, continues_back, path_done}
use Rattle.ts_validate.proofs.arrival.Tour.signature.Goals as goal

pub loop-at-preserved : goal.loop-at-preserved
loop-at-preserved c =
    let some : 0 < c.loop-at.at = omega (arith, c.loop-at-test.true) in
    record {
      there = earlier c.args.self.now.arrivals.items c.loop-at.at c.arrival-last.result c.arrival-last.ensures some c.loop-at.invariant.there c.requires.back;
      path = continues_back c.args.self.now.arrivals.items c.args.k c.loop-at.at c.loop-at.signature.items c.push.new.self.items c.arrival-last.result some
          c.arrival-last.ensures c.in_ok-push.ensures.items c.loop-at.invariant.path;
    }

pub returns : goal.returns
returns c =
    path_done c.args.self.now.arrivals.items c.args.k c.loop-at.at c.loop-at.signature.items c.reverse.new.self.items (omega (arith, c.loop-at-test.false))
    c.reverse.ensures.items c.loop-at.invariant.path
