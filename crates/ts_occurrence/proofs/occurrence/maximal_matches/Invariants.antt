use Rattle.std.proofs.Common.{◌≡◌, ◌<◌, length, take, get_or}
use Rattle.ts_regex.specs.Shape.{shape_of, Empty}
use Rattle.ts_regex.specs.NormalForm.{normal_form}
use Rattle.ts_pattern.specs.OccurrenceList.{AreRanges}
use Rattle.ts_pattern.proofs.CallerLemmas.{AreLive}
use Rattle.ts_occurrence.specs.Residuals.{shapes_met, AreConsistent}
use Rattle.ts_occurrence.specs.Live.{entries_of, AreKnown}
use Rattle.ts_occurrence.proofs.occurrence.maximal_matches.Given as goal

abbrev pub invariant-loop-k : goal.invariant-loop-k
invariant-loop-k l =
    record {
      some : 0 < length l.residuals.met.items;
      whole : get_or (shapes_met l.residuals.met.items) 0 Empty ≡ normal_form (shape_of l.p.regex);
      right : AreConsistent l.residuals.met.items;
      met : AreKnown (shapes_met l.residuals.met.items) l.live.items;
      live : AreLive (shape_of l.p.regex) (take l.k l.w) (length (take l.k l.w)) (entries_of (shapes_met l.residuals.met.items) l.live.items);
      found : AreRanges (shape_of l.p.regex) l.p.b l.p.a (take l.k l.w) l.found.items;
    }
