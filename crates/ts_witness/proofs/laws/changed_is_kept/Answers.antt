use Rattle.ts_witness.proofs.Alive.{changed_is_kept as law}
use Rattle.ts_witness.proofs.laws.changed_is_kept.Goals as goal

pub returns : goal.returns
returns c = law
