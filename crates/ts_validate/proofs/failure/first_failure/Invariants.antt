use Rattle.std.proofs.Common.{◌≡◌, ℕ, ◌<◌, None}
use Rattle.ts_validate.specs.Failures.{failure_at}
use Rattle.ts_validate.proofs.failure.first_failure.Given as goal

abbrev pub invariant-loop-i : goal.invariant-loop-i
invariant-loop-i l = (i : ℕ) → i < l.i → failure_at l.tour i ≡ None
