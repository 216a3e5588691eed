use Rattle.ts_compile.proofs.Tables.{glued_value}
use Rattle.ts_compile.proofs.laws.glued_value.Goals as goal

pub returns : goal.returns
returns c = glued_value
