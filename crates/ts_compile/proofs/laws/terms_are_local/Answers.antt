use Rattle.ts_compile.proofs.Partners.{terms_are_local}
use Rattle.ts_compile.proofs.laws.terms_are_local.Goals as goal

pub returns : goal.returns
returns c = terms_are_local
