use Rattle.ts_certificate.proofs.SizeLaws.{text_short, text_fits}
use Rattle.ts_certificate.proofs.laws.text_fits.Goals as goal

pub returns-clause-short : goal.returns-clause-short
returns-clause-short c = text_short

pub returns-clause-fits : goal.returns-clause-fits
returns-clause-fits c = text_fits
