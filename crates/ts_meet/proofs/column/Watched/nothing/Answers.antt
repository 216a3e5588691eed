use Rattle.ts_meet.proofs.Watched.{all_known}
use Rattle.ts_meet.proofs.column.Watched.nothing.Goals as goal

pub returns : goal.returns
returns c a = all_known a
