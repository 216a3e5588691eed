use Rattle.ts_domain.proofs.SeriesLaws.{series_of_box}
use Rattle.ts_domain.proofs.laws.series_are_those_inside.Goals as goal

pub returns : goal.returns
returns c = λ cells vs. series_of_box cells vs
