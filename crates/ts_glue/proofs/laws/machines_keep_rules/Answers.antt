use Rattle.ts_glue.proofs.CallerLemmas.{machines_keep_rules}
use Rattle.ts_glue.proofs.laws.machines_keep_rules.Goals as goal

pub returns : goal.returns
returns c = machines_keep_rules
