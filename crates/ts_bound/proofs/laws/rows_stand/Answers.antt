use Rattle.ts_bound.proofs.TableLaws.{row_stands}
use Rattle.ts_bound.proofs.laws.rows_stand.Goals as goal

pub returns : goal.returns
returns c b rules before values = row_stands b rules before values
