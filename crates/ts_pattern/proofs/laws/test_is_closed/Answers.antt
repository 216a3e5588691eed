use Rattle.ts_pattern.proofs.Tested.{closed_by_test}
use Rattle.ts_pattern.proofs.laws.test_is_closed.Goals as goal

pub returns : goal.returns
returns c = λ rows p b plan h. closed_by_test rows p b plan h
