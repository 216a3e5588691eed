use Rattle.ts_certificate.proofs.ByteLaws.{one_value}
use Rattle.ts_certificate.proofs.laws.one_certificate.Goals as goal

pub returns : goal.returns
returns c = one_value
