use Rattle.ts_compile.proofs.Partners.{terms_glue}
use Rattle.ts_compile.proofs.laws.terms_glue.Goals as goal

pub returns : goal.returns
returns c = terms_glue
