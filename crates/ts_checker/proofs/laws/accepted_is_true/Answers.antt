use Rattle.ts_checker.proofs.Truth.{accepted_is_true}
use Rattle.ts_checker.proofs.laws.accepted_is_true.Goals as goal

pub returns : goal.returns
returns c = accepted_is_true
