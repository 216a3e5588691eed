use Rattle.ts_model.proofs.UnionLaws.{all_usable, union_made}
use Rattle.ts_model.proofs.cells.union_of.Goals as goal

pub from_intervals-requires-clause-usable : goal.from_intervals-requires-clause-usable
from_intervals-requires-clause-usable c = all_usable c.args.ranges.items c.requires.forward c.requires.inside

pub returns : goal.returns
returns c = union_made c.args.ranges.items c.from_intervals.result c.from_intervals.ensures.domain c.from_intervals.ensures.union
