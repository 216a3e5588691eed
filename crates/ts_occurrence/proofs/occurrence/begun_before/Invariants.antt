use Rattle.std.proofs.Common.{◌≤◌, length, drop}
use Rattle.std.specs.List.{AllByRecursion}
use Rattle.ts_occurrence.proofs.occurrence.begun_before.Given as goal

abbrev pub invariant-loop-kept : goal.invariant-loop-kept
invariant-loop-kept l = record { inside : l.kept ≤ length l.found; behind : AllByRecursion (λ r. l.cell ≤ r.first) (drop l.kept l.found) }

abbrev pub decreases-loop-kept : goal.decreases-loop-kept
decreases-loop-kept l = l.kept
