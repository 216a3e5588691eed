use Rattle.ts_domain.proofs.SeriesLaws.{series_rising}
use Rattle.ts_domain.proofs.laws.series_rise.Goals as goal

pub returns : goal.returns
returns c = λ cells h. series_rising cells h
