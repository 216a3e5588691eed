use Rattle.ts_search.proofs.LineParts.{first_no_fits}
use Rattle.ts_search.proofs.laws.first_no_fits.Goals as goal

pub returns : goal.returns
returns c = first_no_fits
