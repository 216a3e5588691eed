use Rattle.std.proofs.Common.{◌≡◌}
use Rattle.ts_checker.specs.Shortened.{series_of_zeros}
use Rattle.ts_checker.proofs.certificate_line.zeros.Given as goal

abbrev pub invariant-loop : goal.invariant-loop
invariant-loop l = l.line.items ≡ series_of_zeros l.counter
