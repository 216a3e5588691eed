use Rattle.std.proofs.Common.{length}
use Rattle.ts_checker.proofs.InputLaws.{IsEaten}
use Rattle.ts_checker.proofs.input.Input.feed.Given as goal

abbrev pub invariant-loop-rest : goal.invariant-loop-rest
invariant-loop-rest l = IsEaten l.piece l.rest l.fn.self l.self

abbrev pub decreases-loop-rest : goal.decreases-loop-rest
decreases-loop-rest l = length l.rest
