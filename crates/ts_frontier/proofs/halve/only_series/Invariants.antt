use Rattle.std.proofs.Common.{◌≡◌, take, map}
use Rattle.ts_domain.specs.Values.{least_of}
use Rattle.ts_frontier.proofs.halve.only_series.Given as goal

abbrev pub invariant-loop-i : goal.invariant-loop-i
invariant-loop-i l = l.series.items ≡ map least_of (take l.i l.b.present)
