use Rattle.std.proofs.Common.{◌≡◌, ◌*◌, ◌≤◌, false}
use Rattle.ts_tests.proofs.checked.inputs.first_other.Given as goal

abbrev pub invariant-loop-k : goal.invariant-loop-k
invariant-loop-k l = (l.verifier.missing ≡ false) × (l.verifier.count ≤ 1000 * l.k)
