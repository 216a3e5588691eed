use Rattle.ts_compile.proofs.Seeds.{seeds_are_validated}
use Rattle.ts_compile.proofs.laws.seeds_are_validated.Goals as goal

pub returns : goal.returns
returns c = seeds_are_validated
