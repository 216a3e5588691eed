use Rattle.std.proofs.Common.{subst}
use Rattle.ts_certificate.specs.Grammar.{IsLine}
use Rattle.ts_certificate.proofs.StopLaws.{line_is, one_line}
use Rattle.ts_certificate.proofs.laws.line_is_read.Goals as goal

pub returns : goal.returns
returns c = λ s text g few. (one_line s text g few, λ e. subst (IsLine s text) e (line_is s text few))
