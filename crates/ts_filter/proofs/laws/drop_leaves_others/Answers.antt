use Rattle.ts_filter.proofs.BoxParts.{drop_leaves_others}
use Rattle.ts_filter.proofs.laws.drop_leaves_others.Goals as goal

pub returns : goal.returns
returns c = drop_leaves_others
