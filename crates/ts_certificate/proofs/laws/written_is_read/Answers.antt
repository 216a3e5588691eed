use Rattle.ts_certificate.proofs.ByteLaws.{written_read}
use Rattle.ts_certificate.proofs.laws.written_is_read.Goals as goal

pub returns : goal.returns
returns c = written_read
