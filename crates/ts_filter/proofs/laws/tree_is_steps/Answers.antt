use Rattle.ts_filter.proofs.TreeLaws.{tree_is_steps}
use Rattle.ts_filter.proofs.laws.tree_is_steps.Goals as goal

pub returns : goal.returns
returns c = tree_is_steps
