use Rattle.std.proofs.Common.{length}
use Rattle.ts_checker.proofs.WholeSteps.{IsFed}
use Rattle.ts_checker.proofs.whole.verdict_on.Given as goal

abbrev pub invariant-loop-rest : goal.invariant-loop-rest
invariant-loop-rest l = IsFed l.text l.rest l.fn.checker.model l.checker

abbrev pub decreases-loop-rest : goal.decreases-loop-rest
decreases-loop-rest l = length l.rest
