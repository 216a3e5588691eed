use Rattle.std.proofs.Common.{length}
use Rattle.ts_run.proofs.WatchSteps.{IsEaten}
use Rattle.ts_run.proofs.watch.WatchingLive.take.Given as goal

abbrev pub invariant-loop-rest : goal.invariant-loop-rest
invariant-loop-rest l = IsEaten l.piece l.rest l.fn.text.items l.text.items l.fn.self.stage l.self.stage

abbrev pub decreases-loop-rest : goal.decreases-loop-rest
decreases-loop-rest l = length l.rest
