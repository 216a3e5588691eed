use Rattle.std.proofs.Common.{◌<◌, length, reverse}
use Rattle.ts_validate.proofs.Tours.{Continues}
use Rattle.ts_validate.proofs.arrival.Tour.signature.Given as goal

abbrev pub invariant-loop-at : goal.invariant-loop-at
invariant-loop-at l =
    record {
      there : l.at < length l.self.arrivals.items;
      path : Continues l.self.arrivals.items l.k l.at (reverse l.signature.items);
    }

abbrev pub decreases-loop-at : goal.decreases-loop-at
decreases-loop-at l = l.at
