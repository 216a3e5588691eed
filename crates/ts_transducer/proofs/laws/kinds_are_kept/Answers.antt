use Rattle.ts_transducer.proofs.CallerLemmas.{move_keeps_kinds}
use Rattle.ts_transducer.proofs.laws.kinds_are_kept.Goals as goal

pub returns-clause-step : goal.returns-clause-step
returns-clause-step c = λ rows a h. move_keeps_kinds rows h a
