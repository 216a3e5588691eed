use Rattle.ts_domain.proofs.BoxLaws.{length-without}
use Rattle.ts_domain.proofs.laws.one_value_less.Goals as goal

pub returns : goal.returns
returns c = λ gone values h has. length-without gone values h has
