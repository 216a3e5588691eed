use Rattle.std.proofs.Common.{length}
use Rattle.ts_model.proofs.WholeTexts.{IsReadTo}
use Rattle.ts_model.proofs.whole.read_model.Given as goal

abbrev pub invariant-loop-rest : goal.invariant-loop-rest
invariant-loop-rest l = IsReadTo l.fn.need l.text l.rest l.reader

abbrev pub decreases-loop-rest : goal.decreases-loop-rest
decreases-loop-rest l = length l.rest
