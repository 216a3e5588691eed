use Rattle.std.proofs.Common.{[], ◌∷◌}
use Rattle.ts_filter.proofs.BoxParts.{part_self}
use Rattle.ts_filter.proofs.TreeLaws.{few, parts_steps}
use Rattle.ts_filter.proofs.laws.few_wait.Goals as goal

pub returns-clause-few : goal.returns-clause-few
returns-clause-few c = few

pub returns-clause-parts : goal.returns-clause-parts
returns-clause-parts c = λ m s h ls waiting told i f. parts_steps m s h ls 0 (m.cells ∷ []) waiting told (part_self m.cells i, tt) f
