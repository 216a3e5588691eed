use Rattle.std.proofs.Common.{◌≡◌, take}
use Rattle.ts_pattern.specs.Entries.{shapes, survivors}
use Rattle.ts_occurrence.specs.Residuals.{shapes_met, AreConsistent, Grows}
use Rattle.ts_occurrence.specs.Live.{entries_of, AreKnown}
use Rattle.ts_occurrence.proofs.live.survivors.Given as goal

abbrev pub invariant-loop-k : goal.invariant-loop-k
invariant-loop-k l =
    record {
      right : AreConsistent l.residuals.met.items;
      grown : Grows (shapes_met l.fn.residuals.met.items) (shapes_met l.residuals.met.items);
      met : AreKnown (shapes_met l.residuals.met.items) l.kept.items;
      exact : entries_of (shapes_met l.residuals.met.items) l.kept.items
          ≡ survivors shapes l.l (entries_of (shapes_met l.fn.residuals.met.items) (take l.k l.live));
    }
