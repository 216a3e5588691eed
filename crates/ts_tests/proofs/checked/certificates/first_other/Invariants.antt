use Rattle.std.proofs.Common.{◌≡◌, false}
use Rattle.ts_tests.proofs.checked.certificates.first_other.Given as goal

abbrev pub invariant-loop-k : goal.invariant-loop-k
invariant-loop-k l = l.checker.missing ≡ false
