use Rattle.std.proofs.Common.{◌↔◌}
use Rattle.ts_domain.specs.BoxSeries.{IsBefore}
use Rattle.ts_checker.proofs.Cells.{IsBeforeFrom}
use Rattle.ts_checker.proofs.head.is_before.Given as goal

abbrev pub invariant-loop-i : goal.invariant-loop-i
invariant-loop-i l = IsBefore l.earlier l.later ↔ IsBeforeFrom l.i l.earlier l.later
