use Rattle.ts_witness.proofs.Alive.{met_is_alive as law}
use Rattle.ts_witness.proofs.laws.met_is_alive.Goals as goal

pub returns : goal.returns
returns c = law
