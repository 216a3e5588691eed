use Rattle.ts_automaton.proofs.NarrowLaws.{narrow_rests}
use Rattle.ts_automaton.proofs.laws.narrow_rests.Goals as goal

pub returns : goal.returns
returns c = narrow_rests
