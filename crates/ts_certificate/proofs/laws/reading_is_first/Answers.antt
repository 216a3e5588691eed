use Rattle.ts_certificate.proofs.ReadingLaws.{reading_is}
use Rattle.ts_certificate.proofs.ByteLaws.{first_told, missing_end, stop_kept}
use Rattle.ts_certificate.proofs.laws.reading_is_first.Goals as goal

pub returns-clause-reading : goal.returns-clause-reading
returns-clause-reading c = reading_is

pub returns-clause-first : goal.returns-clause-first
returns-clause-first c = first_told

pub returns-clause-missing : goal.returns-clause-missing
returns-clause-missing c = missing_end

pub returns-clause-stays : goal.returns-clause-stays
returns-clause-stays c = stop_kept
