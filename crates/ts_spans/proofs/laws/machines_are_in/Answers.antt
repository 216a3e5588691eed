use Rattle.ts_spans.proofs.OfProgram.{machines_are}
use Rattle.ts_spans.proofs.laws.machines_are_in.Goals as goal

pub returns : goal.returns
returns c = machines_are
