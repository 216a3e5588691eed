use Rattle.ts_filter.proofs.TreeLaws.{formed_short, fit_formed}
use Rattle.ts_filter.proofs.laws.tree_is_short.Goals as goal

pub returns-clause-short : goal.returns-clause-short
returns-clause-short c = formed_short

pub returns-clause-formed : goal.returns-clause-formed
returns-clause-formed c = fit_formed
