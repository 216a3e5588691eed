use Rattle.std.proofs.Common.{◌≡◌, drop}
use Rattle.ts_occurrence.specs.Residuals.{shapes_met}
use Rattle.ts_occurrence.specs.Live.{entries_of, first_ending}
use Rattle.ts_occurrence.proofs.live.first_ending.Given as goal

abbrev pub invariant-loop-x : goal.invariant-loop-x
invariant-loop-x l = first_ending (entries_of (shapes_met l.residuals.met.items) l.live)
    ≡ first_ending (entries_of (shapes_met l.residuals.met.items) (drop l.x-index l.live))
