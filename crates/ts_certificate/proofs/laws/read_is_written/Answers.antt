use Rattle.ts_certificate.proofs.ByteLaws.{read_written}
use Rattle.ts_certificate.proofs.laws.read_is_written.Goals as goal

pub returns : goal.returns
returns c = read_written
