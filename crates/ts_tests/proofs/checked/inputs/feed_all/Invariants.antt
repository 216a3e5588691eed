use Rattle.std.proofs.Common.{◌≡◌, ◌+◌, ◌<◌, false, length}
use Rattle.ts_tests.proofs.checked.inputs.feed_all.Given as goal

abbrev pub invariant-loop-rest : goal.invariant-loop-rest
invariant-loop-rest l = (l.verifier.missing ≡ false) × (l.verifier.count + length l.rest < 4000000000)

abbrev pub decreases-loop-rest : goal.decreases-loop-rest
decreases-loop-rest l = length l.rest
